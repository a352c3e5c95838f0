-- Formulas with no next step, how deep they are nested, and where they hold.
use Rattle.std.specs.Prelude.{◌≡◌, ℕ, suc, max, true, ◌⊎◌, ◌↔◌}
use Rattle.kripke.specs.Models.{Kripke}
use Rattle.kripke.specs.Paths.{Move, Until, Stays}

-- True, word a, not f, f or g, E(f U g), EG f
pub data Formula : Type 0 where
  top : Formula
  word : ℕ → Formula
  neg : Formula → Formula
  or : Formula → Formula → Formula
  until : Formula → Formula → Formula
  globally : Formula → Formula

-- how deep until and globally are nested
abbrev pub depth : Formula → ℕ
depth top = 0
depth (word a) = 0
depth (neg f) = depth f
depth (or f g) = max (depth f) (depth g)
depth (until f g) = suc (max (depth f) (depth g))
depth (globally f) = suc (depth f)

-- f is true at state s: until by some finite path that ends with g and has f before,
-- globally by some path of as many moves as there are states with f at all its states
abbrev pub Holds : Kripke → Formula → ℕ → Type 0
Holds M top s = Unit {0}
Holds M (word a) s = M.labels.words s a ≡ true
Holds M (neg f) s = Holds M f s → ⊥
Holds M (or f g) s = Holds M f s ⊎ Holds M g s
Holds M (until f g) s = (n : ℕ) × Until (Move M.frame) (Holds M f) (Holds M g) n s
Holds M (globally f) s = Stays (Move M.frame) (Holds M f) M.frame.size s

-- no formula tells s of M from x of X
abbrev pub Agree : Kripke → ℕ → Kripke → ℕ → Type 0
Agree M s X x = (f : Formula) → Holds M f s ↔ Holds X f x

-- f holds at one of two states of M and not at the other
abbrev pub Parts : Kripke → Formula → ℕ → ℕ → Type 0
Parts M f s t = (Holds M f s × (Holds M f t → ⊥)) ⊎ (Holds M f t × (Holds M f s → ⊥))
