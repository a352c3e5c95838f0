-- What a listing of a settled analysis comes to.
use Rattle.std.proofs.Common.{ℕ, List, Ok, Err, Result}
use Rattle.std.specs.Option.{ok_or}
use Rattle.std.specs.Result.{result_ok}
use Rattle.kripke.specs.Models.{Kripke}
use Rattle.merger.specs.declared.analysis.Analysis.{Analysis}
use Rattle.merger.specs.declared.answers.Refusal.{Refusal}
use Rattle.exchange.specs.Listings.{ListingAnswer}
use Rattle.modelfile.specs.Loads.{Tables}
use Rattle.exchange.specs.Settles.{Settled, Brought}
use Rattle.exported.specs.Jobs.{Lists, MergesFile, MergesModel}
use Rattle.exported.specs.declared.outcomes.MergeFault.TheVariants.{NotTaken, NoRoom}
use Rattle.exported.specs.declared.outcomes.MergeFault.{MergeFault}

pub listed : (M : Kripke) (a : Analysis) (before after : List ℕ) (x : Result ℕ Refusal) → Settled a M → ListingAnswer a before after x → Lists M before after (ok_or (result_ok x) NoRoom)
listed M a before after (Ok len) s answer =
    let l = answer.settled M s.rounds s.stands s.settles in
    (record { rounds = s.rounds; settles = s.settles; lines = l.0; tell = l.1 }, l.2.0, l.2.1, l.2.2)
listed M a before after (Err e) s answer =
    let l = answer.settled M s.rounds s.stands s.settles in
    (record { rounds = s.rounds; settles = s.settles; lines = l.0; tell = l.1 }, l.2.0, answer.within)

-- of a file that was taken, and of a model
pub file_listed : (file : List ℕ) (t t' : Tables) (a : Analysis) (before after : List ℕ) (y : Result ℕ MergeFault) →
    Brought file t t' (Settled a) → ((M : Kripke) → Settled a M → Lists M before after y) → MergesFile file t t' before after y
file_listed file t t' a before after (Ok len) b l = record { labels = b.labels; rows = b.rows; held = b.held; are = l _ b.are }
file_listed file t t' a before after (Err (NotTaken e)) b l = absurd (l _ b.are)
file_listed file t t' a before after (Err NoRoom) b l = record { labels = b.labels; rows = b.rows; held = b.held; are = l _ b.are }

pub model_listed : (M : Kripke) (before after : List ℕ) (y : Result ℕ MergeFault) → Lists M before after y → MergesModel M before after y
model_listed M before after (Ok len) l = l
model_listed M before after (Err (NotTaken e)) l = absurd l
model_listed M before after (Err NoRoom) l = l
