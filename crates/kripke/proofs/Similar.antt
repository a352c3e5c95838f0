-- Two models whose states are put into numbered classes, and what lets a state of one go for a state of the other.
use Rattle.std.proofs.Common.{◌≡◌, ℕ, ◌<◌, ◌↔◌, length, get_or}
use Rattle.kripke.specs.Words.{SameWords}
use Rattle.kripke.specs.Models.{Frame, Kripke, nowhere}
use Rattle.kripke.specs.Paths.{Move, Trail, Stays}

-- c gives two states the same number exactly where C relates them
abbrev pub Numbers : Frame → (ℕ → ℕ → Type 0) → (ℕ → ℕ) → Type 0
Numbers F C c = (s t : ℕ) → s < F.size → t < F.size → (c s ≡ c t) ↔ C s t

-- w has the class of s
abbrev pub Fellow : (ℕ → ℕ) → ℕ → ℕ → Type 0
Fellow c s w = c w ≡ c s

-- after moves among its fellows, s can move into the class e
abbrev pub Leaves : Frame → (ℕ → ℕ) → ℕ → ℕ → Type 0
Leaves F c s e = (u v n : ℕ) × Trail (Move F) (Fellow c s) n s u × Move F u v × (c v ≡ e)

-- s can move among its fellows as long as it likes
abbrev pub Circles : Frame → (ℕ → ℕ) → ℕ → Type 0
Circles F c s = (n : ℕ) → Stays (Move F) (Fellow c s) n s

-- a state of X does whatever a state of M does that has the same class
pub record Follows (M : Kripke) (c : ℕ → ℕ) (X : Kripke) (d : ℕ → ℕ) : Type 0 where
  pub says : (s x : ℕ) → s < M.frame.size → x < X.frame.size → c s ≡ d x → SameWords (M.labels.words s) (X.labels.words x)
  pub leaves : (s x : ℕ) → s < M.frame.size → x < X.frame.size → c s ≡ d x →
      (e : ℕ) → (e ≡ c s → ⊥) → Leaves M.frame c s e → Leaves X.frame d x e
  pub circles : (s x : ℕ) → s < M.frame.size → x < X.frame.size → c s ≡ d x → Circles M.frame c s → Circles X.frame d x

abbrev pub Similar : Kripke → (ℕ → ℕ) → Kripke → (ℕ → ℕ) → Type 0
Similar M c X d = Follows M c X d × Follows X d M c

-- R has the m classes of M for its states, the words of their members, a move from a class to another one
-- exactly where its members can leave for that one, and a move from a class to itself exactly where they can circle
pub record Folds (M : Kripke) (c : ℕ → ℕ) (m : ℕ) (R : Kripke) : Type 0 where
  pub sized : R.frame.size ≡ m
  pub says : (s : ℕ) → s < M.frame.size → SameWords (R.labels.words (c s)) (M.labels.words s)
  pub goes : (s j : ℕ) → s < M.frame.size → j < m → (j ≡ c s → ⊥) → Move R.frame (c s) j ↔ Leaves M.frame c s j
  pub turns : (s : ℕ) → s < M.frame.size → Move R.frame (c s) (c s) ↔ Circles M.frame c s
  pub lands : (i k : ℕ) → i < m → k < length (R.frame.row i) → get_or (R.frame.row i) k nowhere < m
