-- Which of two models a state of both belongs to.
use Rattle.std.specs.Prelude.{ℕ, ◌-◌, cond, Option, Some, None, nat_lt}
use Rattle.kripke.specs.Kinds.{beside_size}
use Rattle.models.specs.declared.beside.Side.{Side}
use Rattle.models.specs.declared.beside.Side.TheVariants.{First, Second}

-- the first n states are the first model's, and the others, as many as there are of both, the second's
abbrev pub side_of : ℕ → ℕ → ℕ → Option Side
side_of n p s = cond (nat_lt s (beside_size n p)) (Some (cond (nat_lt s n) (First s) (Second (s - n)))) None
