-- A Kripke model: numbered states with their moves, and the words of each state.
-- The moves alone are a frame, and whatever does not ask for words is said of frames.
use Rattle.std.specs.Prelude.{◌≡◌, ℕ, ◌<◌, ◌≤◌, Bool, false, cond, ◌⊎◌, List, [], length, Some, None, Decides, Option, nat_lt, slice_index_or}
use Rattle.std.specs.List.{AllByRecursion}
use Rattle.kripke.specs.Words.{Words, SameWords, Within}

-- where a move goes that goes to no state
abbrev pub nowhere : ℕ
nowhere = 4096

-- the states 0 to size - 1, each with its row of moves
pub record Frame : Type 0 where
  pub size : ℕ
  pub row : ℕ → List ℕ

-- how many words there are, and those of each state; what it says of other numbers does not count
pub record Labelling : Type 0 where
  pub count : ℕ
  pub words : ℕ → Words

pub record Kripke : Type 0 where
  pub frame : Frame
  pub labels : Labelling

-- a move of a frame with n states goes to a state or nowhere
abbrev pub Lands : ℕ → ℕ → Type 0
Lands n t = (t < n) ⊎ (t ≡ nowhere)

-- at most 4,096 states and 4,096 moves in a row, and a number that is no state has none
pub record SoundFrame (F : Frame) : Type 0 where
  pub few_states : F.size ≤ 4096
  pub few_moves : (s : ℕ) → length (F.row s) ≤ 4096
  pub lands : (s : ℕ) → AllByRecursion (Lands F.size) (F.row s)
  pub no_moves : (s : ℕ) → F.size ≤ s → F.row s ≡ []

-- at most 64 words, and none at or above the count holds
pub record SoundLabels (L : Labelling) : Type 0 where
  pub few_words : L.count ≤ 64
  pub within : (s : ℕ) → Within L.count (L.words s)

-- the law that every kind of model shows of its meaning
pub record WellFormed (M : Kripke) : Type 0 where
  pub frame : SoundFrame M.frame
  pub labels : SoundLabels M.labels

-- the words that hold at a number: those of its label if it is a state, and none if not
abbrev pub words_at : Kripke → ℕ → Words
words_at M s a = cond (nat_lt s M.frame.size) (M.labels.words s a) false

-- both are states, and every word holds at both or at neither
abbrev pub Alike : Kripke → ℕ → ℕ → Type 0
Alike M s t = (s < M.frame.size) × (t < M.frame.size) × SameWords (M.labels.words s) (M.labels.words t)

-- what the answer r says of two states: yes exactly when they are alike
abbrev pub TellsAlike : Bool → Kripke → ℕ → ℕ → Type 0
TellsAlike r M s t = Decides r (Alike M s t)

-- move k of a row, where it has one
abbrev pub move : List ℕ → ℕ → Option ℕ
move row k = cond (nat_lt k (length row)) (Some (slice_index_or row k nowhere)) None

-- a row of a frame with n states has a move, and each of its moves goes to a state: none goes nowhere
pub record TotalRow (n : ℕ) (row : List ℕ) : Type 0 where
  pub some : 0 < length row
  pub lands : (k : ℕ) → k < length row → slice_index_or row k nowhere < n

-- each state has such a row
abbrev pub Total : Frame → Type 0
Total F = (s : ℕ) → s < F.size → TotalRow F.size (F.row s)
