-- There and back: what was written loads as an equal model, and what was loaded is written as its own file.
use Rattle.std.specs.Prelude.{◌≡◌, ℕ, ◌<◌, ◌≤◌, List, length, take, Result, MatchResult}
use Rattle.kripke.specs.Models.{Kripke, words_at}
use Rattle.kripke.specs.Words.{SameWords}
use Rattle.models.specs.declared.facts.Facts.{Facts}
use Rattle.codec.specs.Pieces.{placed}
use Rattle.modelfile.specs.Files.{targets_of}
use Rattle.modelfile.specs.FirstFault.{HoldsStates, Denotes}
use Rattle.modelfile.specs.Loads.{Tables, room_of, model_in, Filled, Accepts, Loads}
use Rattle.modelfile.specs.declared.faults.FileFault.{FileFault}
use Rattle.modelfile.specs.declared.reading.Loaded.{Loaded}
use Rattle.modelfile.specs.declared.scan.Room.{Room}
use Rattle.writing.specs.Saves.{rows_of, Labels, Saved, Saves}
use Rattle.writing.specs.Writings.{Filed}
use Rattle.writing.specs.declared.protocol.WriteFault.{WriteFault}
use Rattle.writing.specs.declared.protocol.WriteFault.TheVariants.{NoSpace}

-- the same states, moves and words
pub record SameModel (A B : Kripke) : Type 0 where
  pub states : A.frame.size ≡ B.frame.size
  pub moves : (s : ℕ) → s < B.frame.size → A.frame.row s ≡ B.frame.row s
  pub words : (s : ℕ) → SameWords (words_at A s) (words_at B s)

-- tables with so much room hold these labels and rows
abbrev pub HoldsFile : Room → ℕ → List (List ℕ) → Type 0
HoldsFile t states rows = HoldsStates t states × (length (targets_of rows) ≤ t.targets)

-- the bytes of a closed writing denote just the labels and rows that were given
abbrev pub ClosedLoadsBack : Type 0
ClosedLoadsBack =
    (buffer : List ℕ) (len : ℕ) (labels : List Facts) (rows : List (List ℕ)) (t : Room) → Filed buffer len labels rows → HoldsFile t (length labels) rows → Denotes t (take len buffer) labels rows

-- the tables hold the labels and rows of the model, and mean it
pub record LoadedAs (M : Kripke) (before after : Tables) (answer : Loaded) : Type 0 where
  pub labels : List Facts
  pub are : Labels M labels
  pub filled : Filled before after labels (rows_of M)
  pub states : answer.states ≡ M.frame.size
  pub targets : answer.targets ≡ length (targets_of (rows_of M))
  pub same : SameModel (model_in after answer) M

-- save, then load into tables that have room: an equal model
abbrev pub SavedLoadsBack : Type 0
SavedLoadsBack =
    (M : Kripke) (buffer written : List ℕ) (len : ℕ) (before after : Tables) (answer : Result Loaded FileFault) →
    Saved M buffer written len → HoldsFile (room_of before) M.frame.size (rows_of M) → Loads (take len written) before after answer →
    MatchResult answer (LoadedAs M before after) (λ _. ⊥)

-- load, then save what the tables mean: the file's own bytes, unless the buffer is shorter than the file
abbrev pub LoadedSavesBack : Type 0
LoadedSavesBack =
    (file : List ℕ) (before after : Tables) (loaded : Loaded) (buffer written : List ℕ) (answer : Result ℕ WriteFault) →
    Accepts file before after loaded → Saves (model_in after loaded) buffer written answer →
    MatchResult answer (λ len. (len ≡ length file) × (written ≡ placed buffer 0 file)) (λ e. (e ≡ NoSpace) × (length buffer < length file))

-- save has one answer
abbrev pub OneSaving : Type 0
OneSaving =
    (M : Kripke) (buffer first second : List ℕ) (r q : Result ℕ WriteFault) → Saves M buffer first r → Saves M buffer second q → (r ≡ q) × (first ≡ second)
