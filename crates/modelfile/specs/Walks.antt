-- What the first pass over a file has read, by the numbers that it keeps.
use Rattle.std.specs.Prelude.{◌≡◌, ℕ, ◌+◌, ◌≤◌, List, [], ◌∷◌, ◌++◌, length, take, drop}
use Rattle.kripke.specs.Reduced.{Rising}
use Rattle.models.specs.declared.facts.Facts.{Facts}
use Rattle.modelfile.specs.Files.{RisingRow, targets_of}
use Rattle.modelfile.specs.FirstFault.{at_label, at_degree, at_target, Reached}
use Rattle.modelfile.specs.declared.scan.Room.{Room}
use Rattle.modelfile.specs.declared.scan.Source.{Source}
use Rattle.modelfile.specs.declared.scan.Cursor.{Cursor}

-- N and some labels are read
pub record LabelsRead (f : Source) (r : Cursor) (count : ℕ) : Type 0 where
  pub labels : List Facts
  pub many : length labels ≡ count
  pub none : r.targets ≡ 0
  pub reached : Reached f.room f.file.now (at_label f.states labels) r.at

-- all labels and some rows are read
pub record RowsRead (f : Source) (r : Cursor) (count : ℕ) : Type 0 where
  pub labels : List Facts
  pub rows : List (List ℕ)
  pub sized : length labels ≡ f.states
  pub many : length rows ≡ count
  pub counted : length (targets_of rows) ≡ r.targets
  pub reached : Reached f.room f.file.now (at_degree labels rows) r.at

-- low is the least target that may follow
abbrev pub Lowest : List ℕ → ℕ → Type 0
Lowest targets low = (t : ℕ) → (low ≤ t → Rising (targets ++ (t ∷ []))) × (Rising (targets ++ (t ∷ [])) → low ≤ t)

-- besides some rows, the degree and some targets of the next are read
pub record TargetsRead (f : Source) (r : Cursor) (count degree have low : ℕ) : Type 0 where
  pub labels : List Facts
  pub rows : List (List ℕ)
  pub targets : List ℕ
  pub sized : length labels ≡ f.states
  pub many : length rows ≡ count
  pub counted : length (targets_of rows) + length targets ≡ r.targets
  pub given : length targets ≡ have
  pub lowest : Lowest targets low
  pub reached : Reached f.room f.file.now (at_target labels rows degree targets) r.at

-- of few states, the next bytes are a right row of this degree, and the tables have room for it
pub record ShortRow (f : Source) (r : Cursor) (degree : ℕ) : Type 0 where
  pub few : f.states ≤ 128
  pub inside : r.at + degree ≤ length f.file.now
  pub held : r.targets + degree ≤ f.room.targets
  pub rising : RisingRow f.states (take degree (drop r.at f.file.now))

-- the file with so much room for it is begun: N is read, and no label
pub record Begun (file : List ℕ) (room : Room) (p : Source × Cursor) : Type 0 where
  pub file_is : p.0.file.now ≡ file
  pub room_is : p.0.room ≡ room
  pub read : LabelsRead p.0 p.1 0
