-- Numbers for classes, given by first member.
use Rattle.std.specs.Prelude.{◌≡◌, ℕ, ◌<◌, ◌↔◌, ◌≢◌}

-- s is the first of the members below n that have the number i
pub record First (n : ℕ) (f : ℕ → ℕ) (i s : ℕ) : Type 0 where
  pub state : s < n
  pub has : f s ≡ i
  pub none_before : (t : ℕ) → t < s → f t ≢ i

-- f gives the numbers below m to the members below n, each number to some, in the order of first members:
-- member 0 has number 0, and each later one has the number of an earlier one or opens the next
pub record Ranked (n : ℕ) (f : ℕ → ℕ) (m : ℕ) : Type 0 where
  pub below : (s : ℕ) → s < n → f s < m
  pub member : (i : ℕ) → i < m → (s : ℕ) × (s < n) × (f s ≡ i)
  pub order : (s i : ℕ) → s < n → i < f s → (t : ℕ) × (t < s) × (f t ≡ i)

-- f numbers the classes of C by first member, and there are m
pub record Numbering (C : ℕ → ℕ → Type 0) (n : ℕ) (f : ℕ → ℕ) (m : ℕ) : Type 0 where
  pub ranked : Ranked n f m
  pub same : (s t : ℕ) → s < n → t < n → (f s ≡ f t) ↔ C s t
