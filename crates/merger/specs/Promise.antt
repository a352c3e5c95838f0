-- What is promised of the classes of a model after r rounds.
use Rattle.std.specs.Prelude.{◌≡◌, ℕ, ◌+◌, ◌<◌, ◌≤◌, min, ◌↔◌, ◌≢◌}
use Rattle.kripke.specs.Models.{Kripke}
use Rattle.kripke.specs.Formulas.{Formula, depth, Agree, Parts}
use Rattle.kripke.specs.Relation.{Related, Settles}
use Rattle.kripke.specs.Numbering.{Numbering}
use Rattle.kripke.specs.Reduced.{Reduces, Smallest}

-- f numbers the m classes of C_r by first member
abbrev pub Classes : Kripke → ℕ → (ℕ → ℕ) → ℕ → Type 0
Classes M r f m = Numbering (Related M r) M.frame.size f m

-- some formula nested no deeper than r holds at only one of two states
abbrev pub Told : Kripke → ℕ → ℕ → ℕ → Type 0
Told M r s t = (f : Formula) × (depth f ≤ r) × Parts M f s t

-- R can stand for M, state f s for state s, and every other model that can has at least as many states
abbrev pub Stands : Kripke → (ℕ → ℕ) → Kripke → Type 0
Stands M f R = Smallest R M × ((s : ℕ) → s < M.frame.size → (f s < R.frame.size) × Agree M s R (f s))

-- of the m classes that f numbers after r rounds
pub record Promise (M : Kripke) (r : ℕ) (f : ℕ → ℕ) (m : ℕ) : Type 0 where
  -- once settled, two states have one class exactly where every formula holds at both or at neither
  pub exact : Settles M r → (s t : ℕ) → s < M.frame.size → t < M.frame.size → (f s ≡ f t) ↔ Agree M s M t
  -- settled or not, some formula nested no deeper than the rounds made tells states of different classes apart
  pub told : (s t : ℕ) → s < M.frame.size → t < M.frame.size → (f s ≢ f t) → Told M r s t
  -- once settled, the reduced model can stand for M, each class for its members, and no smaller one can
  pub stands : Settles M r → (R : Kripke) → Reduces M (Related M r) f m R → Stands M f R
  -- with h classes of alike states, h + r is then at most m + 1
  pub counted : Settles M r → (g : ℕ → ℕ) (h : ℕ) → Classes M 0 g h → h + r ≤ m + 1

-- asked for more rounds after r, as many are made as are left up to the settling one
abbrev pub Reaches : Kripke → ℕ → ℕ → ℕ → Type 0
Reaches M r asked q = (z : ℕ) × Settles M z × (q ≡ min (r + asked) z)
