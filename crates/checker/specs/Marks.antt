-- The states where a formula holds, as a set and as marks.
use Rattle.std.specs.Prelude.{◌≡◌, ℕ, ◌<◌, ◌≤◌, true, ◌⊎◌, ◌↔◌, List, slice_index}
use Rattle.sets.specs.declared.Set.{Set}
use Rattle.sets.specs.Sets.{In}
use Rattle.kripke.specs.Models.{Kripke}
use Rattle.kripke.specs.Words.{Words}
use Rattle.kripke.specs.Paths.{Until as Ends, Stays}
use Rattle.kripke.specs.Formulas.{Formula, Holds}
use Rattle.checker.specs.declared.steps.Step.{Step}
use Rattle.checker.specs.declared.steps.Step.TheVariants.{True, Word, Not, Or, Until, Globally}

-- of the states, x has just those where f holds
abbrev pub SetIs : Kripke → Formula → Set → Type 0
SetIs M f x = (s : ℕ) → s < M.frame.size → In x s ↔ Holds M f s

-- where a step is true by moves R among n states, if its operands are true where P and Q say
abbrev pub TrueAt : (ℕ → ℕ → Type 0) → ℕ → (ℕ → Words) → Step → (ℕ → Type 0) → (ℕ → Type 0) → ℕ → Type 0
TrueAt R n words True P Q s = Unit {0}
TrueAt R n words (Word a) P Q s = words s a ≡ true
TrueAt R n words Not P Q s = P s → ⊥
TrueAt R n words Or P Q s = P s ⊎ Q s
TrueAt R n words Until P Q s = (k : ℕ) × Ends R P Q k s
TrueAt R n words Globally P Q s = Stays R P n s

-- each state is marked 1 where f holds and 0 where it does not, and the other marks are as they were
pub record Marked (M : Kripke) (f : Formula) (old new : List ℕ) : Type 0 where
  pub states : (s : ℕ) → s < M.frame.size → ((slice_index new s ≡ 1) × Holds M f s) ⊎ ((slice_index new s ≡ 0) × (Holds M f s → ⊥))
  pub others : (s : ℕ) → M.frame.size ≤ s → slice_index new s ≡ slice_index old s
