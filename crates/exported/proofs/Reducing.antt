-- What a settled analysis fills.
use Rattle.std.proofs.Common.{ℕ, List, Ok, Err, Result}
use Rattle.kripke.specs.Models.{Kripke}
use Rattle.modelfile.specs.Loads.{Tables}
use Rattle.merger.specs.Calls.{ReducedAnswer}
use Rattle.merger.specs.Reducing.{meaning, Fills}
use Rattle.merger.specs.declared.analysis.Analysis.{Analysis}
use Rattle.merger.specs.declared.answers.Refusal.{Refusal}
use Rattle.merger.specs.declared.reduced.Reduced.{Reduced}
use Rattle.exchange.specs.Settles.{Settled, Brought}
use Rattle.exported.specs.Jobs.{Filling}

fills : (M : Kripke) (a : Analysis) (x y : Reduced) (answer : Result (Unit {0}) Refusal) (s : Settled a M) → ReducedAnswer a x y answer → Fills M s.rounds (meaning y)
fills M a x y (Ok u) s told = (told.told M s.rounds s.stands).settled s.settles
fills M a x y (Err e) s told = absurd ((told.told M s.rounds s.stands).settled s.settles)

-- of the model that a file denotes
pub filled : (file : List ℕ) (t t' : Tables) (a : Analysis) (x y : Reduced) (answer : Result (Unit {0}) Refusal) (As : Kripke → Type 0) →
    Brought file t t' (Settled a) → ReducedAnswer a x y answer → As (meaning y) → Brought file t t' (λ M. (f : Filling M) × As f.model)
filled file t t' a x y answer As b told p =
    record {
      labels = b.labels;
      rows = b.rows;
      held = b.held;
      are = (record { rounds = b.are.rounds; settles = b.are.settles; model = meaning y; fills = fills _ a x y answer b.are told }, p);
    }
