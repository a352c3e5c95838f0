-- What each fault of a taking tells, and what `take` answers and leaves.
use Rattle.std.specs.Prelude.{◌≡◌, ℕ, List, length, Result, MatchResult}
use Rattle.components.specs.declared.marks.Walk.{Walk}
use Rattle.models.specs.declared.facts.Facts.{Facts}
use Rattle.modelfile.specs.Faults.{file_told}
use Rattle.modelfile.specs.Files.{model_of}
use Rattle.modelfile.specs.FirstFault.{Denotes, FirstFault}
use Rattle.modelfile.specs.Loads.{Tables, room_of, Filled}
use Rattle.modelfile.specs.declared.faults.FaultNumbers.{FaultNumbers}
use Rattle.merger.specs.Calls.{Analysed, Promises}
use Rattle.merger.specs.Refusals.{open_cause, open_place, open_move}
use Rattle.merger.specs.Tells.{OpenTells, OpenRefuses}
use Rattle.merger.specs.declared.analysis.Analysis.{Analysis}
use Rattle.merger.specs.declared.answers.OpenRefusal.{OpenRefusal}
use Rattle.merger.specs.declared.answers.Opened.{Opened}
use Rattle.exchange.specs.declared.taking.TakeFault.{TakeFault}
use Rattle.exchange.specs.declared.taking.TakeFault.TheVariants.{InFile, InModel}

-- layer 3: a model
abbrev pub model_told : OpenRefusal → FaultNumbers
model_told e = record { layer = 3; cause = open_cause e; place = open_place e; number = open_move e }

abbrev pub take_told : TakeFault → FaultNumbers
take_told (InFile fault) = file_told fault
take_told (InModel e) = model_told e

-- the file denotes these labels and rows, and the tables hold them
pub record Held (file : List ℕ) (t t' : Tables) (labels : List Facts) (rows : List (List ℕ)) : Type 0 where
  pub denotes : Denotes (room_of t) file labels rows
  pub filled : Filled t t' labels rows

-- the analysis stands for the model that the file denotes, after no round
pub record Taken (file : List ℕ) (t t' : Tables) (b : Analysis) (walks states : ℕ) (x : Opened) : Type 0 where
  pub labels : List Facts
  pub rows : List (List ℕ)
  pub held : Held file t t' labels rows
  pub tells : OpenTells (model_of labels rows) walks states x
  pub stands : Analysed (model_of labels rows) 0 b
  pub promises : Promises (model_of labels rows) 0 b

-- why it does not: the file's first fault, and the tables are as they were; or open's refusal of the model that they hold
abbrev pub NotTaken : List ℕ → Tables → Tables → (walks states : ℕ) → TakeFault → Type 0
NotTaken file t t' walks states (InFile fault) = FirstFault (room_of t) file fault × (t' ≡ t)
NotTaken file t t' walks states (InModel e) =
    (labels : List Facts) × (rows : List (List ℕ)) × Held file t t' labels rows × OpenRefuses (model_of labels rows) walks states e

abbrev pub TakeAnswer : List ℕ → (t t' : Tables) (a b : Analysis) (walks walks' : List Walk) (states states' : List ℕ) → Result Opened TakeFault → Type 0
TakeAnswer file t t' a b walks walks' states states' answer = MatchResult answer
    (Taken file t t' b (length walks) (length states))
    (λ e. NotTaken file t t' (length walks) (length states) e × (b ≡ a) × (walks' ≡ walks) × (states' ≡ states))
