-- What load answers and leaves.
use Rattle.std.specs.Prelude.{◌≡◌, ℕ, ◌+◌, List, length, take, Result, MatchResult}
use Rattle.codec.specs.Pieces.{placed}
use Rattle.kripke.specs.Kinds.{listed}
use Rattle.kripke.specs.Models.{Kripke}
use Rattle.models.specs.Facts.{fact_words}
use Rattle.models.specs.declared.facts.Facts.{Facts}
use Rattle.modelfile.specs.Files.{targets_of, offsets_of, model_of}
use Rattle.modelfile.specs.FirstFault.{Denotes, FirstFault, OneOutcome}
use Rattle.modelfile.specs.declared.faults.FileFault.{FileFault}
use Rattle.modelfile.specs.declared.reading.Loaded.{Loaded}
use Rattle.modelfile.specs.declared.reading.Tables.{Tables as Lent}
use Rattle.modelfile.specs.declared.scan.Room.{Room}

-- what the three lent tables hold
pub record Tables : Type 0 where
  pub labels : List Facts
  pub offsets : List ℕ
  pub targets : List ℕ

abbrev pub held : Lent → Tables
held t = record { labels = t.labels.now; offsets = t.offsets.now; targets = t.targets.now }

-- the same memory is lent as before
abbrev pub StillLent : Lent → Lent → Type 0
StillLent t t' = (t'.labels.ghost_name ≡ t.labels.ghost_name) × (t'.offsets.ghost_name ≡ t.offsets.ghost_name) × (t'.targets.ghost_name ≡ t.targets.ghost_name)

-- how many entries they have
abbrev pub room_of : Tables → Room
room_of t = record { labels = length t.labels; offsets = length t.offsets; targets = length t.targets }

-- the fronts of the tables hold these labels and rows, and the entries behind are as they were
pub record Filled (before after : Tables) (labels : List Facts) (rows : List (List ℕ)) : Type 0 where
  pub labels_are : after.labels ≡ placed before.labels 0 labels
  pub offsets_are : after.offsets ≡ placed before.offsets 0 (offsets_of rows)
  pub targets_are : after.targets ≡ placed before.targets 0 (targets_of rows)

-- the model by the fronts of the tables, as long as the answer says
abbrev pub model_in : Tables → Loaded → Kripke
model_in t answer =
    listed 64 fact_words (take answer.states t.labels) (take (answer.states + 1) t.offsets) (take answer.targets t.targets)

-- the tables hold the model that the file denotes, and the answer counts its states and its targets
pub record Accepts (file : List ℕ) (before after : Tables) (answer : Loaded) : Type 0 where
  pub labels : List Facts
  pub rows : List (List ℕ)
  pub denotes : Denotes (room_of before) file labels rows
  pub filled : Filled before after labels rows
  pub states : answer.states ≡ length labels
  pub targets : answer.targets ≡ length (targets_of rows)
  pub means : model_in after answer ≡ model_of labels rows

-- it accepts; or it refuses with the file's first fault, and the tables are as they were
abbrev pub Loads : List ℕ → Tables → Tables → Result Loaded FileFault → Type 0
Loads file before after answer = MatchResult answer (Accepts file before after) (λ e. FirstFault (room_of before) file e × (after ≡ before))

abbrev pub EachFileHasOneOutcome : Type 0
EachFileHasOneOutcome = (room : Room) (file : List ℕ) → OneOutcome room file
