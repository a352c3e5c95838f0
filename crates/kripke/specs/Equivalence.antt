-- An equivalence relation on the numbers below n.
use Rattle.std.specs.Prelude.{ℕ, ◌<◌}

pub record Equivalence (n : ℕ) (C : ℕ → ℕ → Type 0) : Type 0 where
  pub members : (s t : ℕ) → C s t → (s < n) × (t < n)
  pub own : (s : ℕ) → s < n → C s s
  pub turn : (s t : ℕ) → C s t → C t s
  pub join : (s t u : ℕ) → C s t → C t u → C s u
