-- Numbers by first member, for components that have numbers in another order.
use Rattle.std.specs.Prelude.{◌≡◌, ℕ, ◌<◌, ◌≤◌, ◌↔◌, List, slice_index}
use Rattle.sets.specs.declared.Set.{Set}
use Rattle.sets.specs.Sets.{In}
use Rattle.kripke.specs.Numbering.{Numbering}
use Rattle.components.specs.declared.Found.{Found}

-- the number that a table gives to a state
abbrev pub number : List ℕ → ℕ → ℕ
number part s = slice_index part s

-- part' numbers the components of the first n states, and is part from there on; found has how many there are,
-- those of them that turning has by the other numbers, and all of them in the order of the other numbers
pub record Numbered (component : List ℕ) (turning : Set) (n : ℕ) (part part' : List ℕ) (found : Found) : Type 0 where
  pub numbering : Numbering (λ s t. number component s ≡ number component t) n (number part') found.count
  pub rest : (s : ℕ) → n ≤ s → number part' s ≡ number part s
  pub cyclic : (i : ℕ) → In found.cyclic i ↔ ((s : ℕ) × (s < n) × (number part' s ≡ i) × In turning (number component s))
  pub order : (s : ℕ) → s < n → number found.order (number component s) ≡ number part' s
