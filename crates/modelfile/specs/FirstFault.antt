-- When a file is accepted, and which of its faults is the first.
-- The numbers of a file are judged as they come. At each of them the causes have one order: the number itself (1, 2),
-- its range (3), whether it rises (4), room in the tables (5). What was read before a fault is right.
use Rattle.std.specs.Prelude.{◌≡◌, ℕ, ◌+◌, ◌<◌, ◌≤◌, ◌⊎◌, List, [], ◌∷◌, ◌++◌, length, take}
use Rattle.std.specs.List.{AllByRecursion}
use Rattle.kripke.specs.Reduced.{Rising}
use Rattle.models.specs.declared.facts.Facts.{Facts}
use Rattle.codec.specs.Numbers.{codes}
use Rattle.codec.specs.Reading.{Stands, Wrong}
use Rattle.modelfile.specs.Files.{bits_of, numbers, file_of, longest, Sized, RisingRow, Wide, Valid, targets_of}
use Rattle.modelfile.specs.declared.faults.FileFault.{FileFault}
use Rattle.modelfile.specs.declared.faults.FileFault.TheVariants.{InNumber, OutOfRange, NotRising, TableShort, LeftOver, TooLong}
use Rattle.modelfile.specs.declared.scan.Room.{Room}

-- how far a file is read, with what was read: the next number is N, a label, a degree or a target
pub data Spot : Type 0 where
  at_size : Spot
  at_label : ℕ → List Facts → Spot
  at_degree : List Facts → List (List ℕ) → Spot
  at_target : List Facts → List (List ℕ) → ℕ → List ℕ → Spot

-- the numbers before it
abbrev pub before : Spot → List ℕ
before at_size = []
before (at_label n labels) = n ∷ bits_of labels
before (at_degree labels rows) = numbers labels rows
before (at_target labels rows degree targets) = numbers labels rows ++ (degree ∷ targets)

-- the tables have room for n labels and one offset more
abbrev pub HoldsStates : Room → ℕ → Type 0
HoldsStates t n = (n ≤ t.labels) × (n + 1 ≤ t.offsets)

-- N is right, and so are the labels read so far
pub record RightLabels (t : Room) (n : ℕ) (labels : List Facts) : Type 0 where
  pub sized : Sized n
  pub held : HoldsStates t n
  pub few : length labels ≤ n
  pub wide : AllByRecursion Wide labels

-- besides all labels, the rows read so far are right
pub record RightRows (t : Room) (labels : List Facts) (rows : List (List ℕ)) : Type 0 where
  pub labelled : RightLabels t (length labels) labels
  pub few : length rows ≤ length labels
  pub rising : AllByRecursion (RisingRow (length labels)) rows
  pub held : length (targets_of rows) ≤ t.targets

-- besides these rows, the degree of the next and its targets read so far are right
pub record RightTargets (t : Room) (labels : List Facts) (rows : List (List ℕ)) (degree : ℕ) (targets : List ℕ) : Type 0 where
  pub complete : RightRows t labels rows
  pub next : length rows < length labels
  pub ranged : degree ≤ length labels
  pub few : length targets ≤ degree
  pub rising : RisingRow (length labels) targets
  pub held : length (targets_of rows) + length targets ≤ t.targets

-- what was read is right
abbrev pub Right : Room → Spot → Type 0
Right t at_size = Unit {0}
Right t (at_label n labels) = RightLabels t n labels
Right t (at_degree labels rows) = RightRows t labels rows
Right t (at_target labels rows degree targets) = RightTargets t labels rows degree targets

-- a number is still to come here
abbrev pub Comes : Spot → Type 0
Comes at_size = Unit {0}
Comes (at_label n labels) = length labels < n
Comes (at_degree labels rows) = length rows < length labels
Comes (at_target labels rows degree targets) = length targets < degree

-- nothing is to come: all rows are read
abbrev pub Over : Spot → Type 0
Over at_size = ⊥
Over (at_label n labels) = ⊥
Over (at_degree labels rows) = length rows ≡ length labels
Over (at_target labels rows degree targets) = ⊥

-- cause 3 does not apply to the next number
abbrev pub InRange : Spot → ℕ → Type 0
InRange at_size n = Sized n
InRange (at_label n labels) facts = Unit {0}
InRange (at_degree labels rows) degree = degree ≤ length labels
InRange (at_target labels rows degree targets) target = target < length labels

-- cause 4 does not
abbrev pub Rises : Spot → ℕ → Type 0
Rises at_size n = Unit {0}
Rises (at_label n labels) facts = Unit {0}
Rises (at_degree labels rows) degree = Unit {0}
Rises (at_target labels rows degree targets) target = Rising (targets ++ (target ∷ []))

-- cause 5 does not
abbrev pub HasRoom : Room → Spot → ℕ → Type 0
HasRoom t at_size n = HoldsStates t n
HasRoom t (at_label n labels) facts = Unit {0}
HasRoom t (at_degree labels rows) degree = Unit {0}
HasRoom t (at_target labels rows degree targets) target = length (targets_of rows) + length targets < t.targets

-- a number of which P holds stands at the place
abbrev pub Number : List ℕ → ℕ → (ℕ → Type 0) → Type 0
Number file at P = (n next : ℕ) × Stands file at n next × P n

-- the first that is wrong is wrong here
abbrev pub Fails : Room → List ℕ → Spot → ℕ → FileFault → Type 0
Fails t file s at (InNumber fault) = Comes s × Wrong file at fault
Fails t file s at (OutOfRange place) = Comes s × (place ≡ at) × Number file at (λ n. InRange s n → ⊥)
Fails t file s at (NotRising place) = Comes s × (place ≡ at) × Number file at (λ n. InRange s n × (Rises s n → ⊥))
Fails t file s at (TableShort place) = Comes s × (place ≡ at) × Number file at (λ n. InRange s n × Rises s n × (HasRoom t s n → ⊥))
Fails t file s at (LeftOver place) = Over s × (place ≡ at) × (at < length file)
Fails t file s at TooLong = ⊥

-- the file is right up to a place, where the spot is
pub record Reached (t : Room) (file : List ℕ) (s : Spot) (at : ℕ) : Type 0 where
  pub inside : at ≤ length file
  pub right : Right t s
  pub text : take at file ≡ codes (before s)

-- a file that is not too long is right up to a place, and wrong there
pub record FaultAtSpot (t : Room) (file : List ℕ) (fault : FileFault) : Type 0 where
  pub short : length file ≤ longest
  pub spot : Spot
  pub at : ℕ
  pub reached : Reached t file spot at
  pub fails : Fails t file spot at fault

abbrev pub FirstFault : Room → List ℕ → FileFault → Type 0
FirstFault t file fault = ((longest < length file) × (fault ≡ TooLong)) ⊎ FaultAtSpot t file fault

-- the file is right, it denotes these labels and rows, and the tables have room for them
pub record Denotes (t : Room) (file : List ℕ) (labels : List Facts) (rows : List (List ℕ)) : Type 0 where
  pub short : length file ≤ longest
  pub valid : Valid labels rows
  pub held : HoldsStates t (length labels) × (length (targets_of rows) ≤ t.targets)
  pub text : file ≡ file_of labels rows

-- a file has one outcome: it denotes one model, or it has one first fault, and not both
pub record OneOutcome (t : Room) (file : List ℕ) : Type 0 where
  pub one_model : (labels more : List Facts) (rows others : List (List ℕ)) → Denotes t file labels rows → Denotes t file more others → (labels ≡ more) × (rows ≡ others)
  pub one_fault : (d e : FileFault) → FirstFault t file d → FirstFault t file e → d ≡ e
  pub not_both : (labels : List Facts) (rows : List (List ℕ)) (e : FileFault) → Denotes t file labels rows → FirstFault t file e → ⊥
