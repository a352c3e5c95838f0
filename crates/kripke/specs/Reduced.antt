-- The reduced model: one state for each class of another model's states.
use Rattle.std.specs.Prelude.{◌≡◌, ℕ, suc, ◌<◌, ◌≤◌, ◌↔◌, List, length, ◌≢◌, slice_index_or}
use Rattle.kripke.specs.Words.{SameWords}
use Rattle.kripke.specs.Models.{Kripke, Total, nowhere}
use Rattle.kripke.specs.Paths.{Move}
use Rattle.kripke.specs.Formulas.{Agree}
use Rattle.kripke.specs.Relation.{NEXT, LOOP}
use Rattle.kripke.specs.Numbering.{First}

-- the targets of a row rise
abbrev pub Rising : List ℕ → Type 0
Rising row = (k : ℕ) → suc k < length row → slice_index_or row k nowhere < slice_index_or row (suc k) nowhere

-- R is the reduced model of M by C, whose m classes c numbers: one state for each class, numbered as the class, with the
-- words of its first member; a move to each other class in the members' NEXT, to itself where LOOP is yes, targets rising
pub record Reduces (M : Kripke) (C : ℕ → ℕ → Type 0) (c : ℕ → ℕ) (m : ℕ) (R : Kripke) : Type 0 where
  pub sized : R.frame.size ≡ m
  pub spoken : R.labels.count ≡ M.labels.count
  pub says : (i s : ℕ) → First M.frame.size c i s → SameWords (R.labels.words i) (M.labels.words s)
  pub goes : (i j : ℕ) → i < m → j < m → (j ≢ i) →
      Move R.frame i j ↔ ((s t : ℕ) × (s < M.frame.size) × (c s ≡ i) × NEXT M.frame C s t × (c t ≡ j))
  pub turns : (i : ℕ) → i < m → Move R.frame i i ↔ ((s : ℕ) × (s < M.frame.size) × (c s ≡ i) × LOOP M.frame C s)
  pub rising : (i : ℕ) → i < m → Rising (R.frame.row i)
  pub lands : (i k : ℕ) → i < m → k < length (R.frame.row i) → slice_index_or (R.frame.row i) k nowhere < m

-- X can stand for M: it is total, and has for each state of M one at which the same formulas hold
abbrev pub StandsFor : Kripke → Kripke → Type 0
StandsFor X M = Total X.frame × ((s : ℕ) → s < M.frame.size → (x : ℕ) × (x < X.frame.size) × Agree M s X x)

-- X can stand for M, and every other model that can has at least as many states
abbrev pub Smallest : Kripke → Kripke → Type 0
Smallest X M = StandsFor X M × ((Y : Kripke) → StandsFor Y M → X.frame.size ≤ Y.frame.size)
