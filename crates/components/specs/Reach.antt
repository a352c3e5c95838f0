-- Where moves lead, said of any relation between numbers.
use Rattle.std.specs.Prelude.{ℕ}

-- t is reached from the last argument, by no move or by one and then others
pub data Reach (E : ℕ → ℕ → Type 0) (t : ℕ) : ℕ → Type 0 where
  stop : Reach E t t
  go : {s u : ℕ} → E s u → Reach E t u → Reach E t s

-- moves lead from s to t
abbrev pub Leads : (ℕ → ℕ → Type 0) → ℕ → ℕ → Type 0
Leads E s t = Reach E t s
