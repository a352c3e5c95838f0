-- What is known of an analysis that a file was taken into, and that was settled.
use Rattle.std.specs.Prelude.{◌≡◌, ℕ, List, length, Result, MatchResult}
use Rattle.kripke.specs.Models.{Kripke}
use Rattle.kripke.specs.Relation.{Settles}
use Rattle.components.specs.declared.marks.Walk.{Walk}
use Rattle.models.specs.declared.facts.Facts.{Facts}
use Rattle.modelfile.specs.Files.{model_of}
use Rattle.modelfile.specs.Loads.{Tables}
use Rattle.merger.specs.Calls.{Analysed, Promises}
use Rattle.merger.specs.declared.analysis.Analysis.{Analysis}
use Rattle.exchange.specs.Takes.{Held, NotTaken}
use Rattle.exchange.specs.declared.taking.TakeFault.{TakeFault}

-- the analysis stands for M, after the round that settles it
pub record Settled (a : Analysis) (M : Kripke) : Type 0 where
  pub rounds : ℕ
  pub settles : Settles M rounds
  pub stands : Analysed M rounds a
  pub promises : Promises M rounds a

-- the tables hold the model that the file denotes, and it is as said
pub record Brought (file : List ℕ) (t t' : Tables) (As : Kripke → Type 0) : Type 0 where
  pub labels : List Facts
  pub rows : List (List ℕ)
  pub held : Held file t t' labels rows
  pub are : As (model_of labels rows)

abbrev pub SettleAnswer : List ℕ → (t t' : Tables) (a b : Analysis) (walks walks' : List Walk) (states states' : List ℕ) → Result (Unit {0}) TakeFault → Type 0
SettleAnswer file t t' a b walks walks' states states' answer = MatchResult answer
    (λ _. Brought file t t' (Settled b))
    (λ e. NotTaken file t t' (length walks) (length states) e × (b ≡ a) × (walks' ≡ walks) × (states' ≡ states))
