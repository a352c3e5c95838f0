-- What is known of a row's moves.
use Rattle.std.proofs.Common.{◌≡◌, ℕ, ◌<◌, Bool, true, false, cond, List, length, get_or, Some, None, refl, ap, arith}
use Rattle.std.specs.Option.{option_map}
use Rattle.std.proofs.lemmas.Bool.Decides.{nat_tests}
use Rattle.kripke.specs.Models.{move, nowhere}

by_case : (f : ℕ → ℕ) (b : Bool) (x y : ℕ) → (b ≡ true → x ≡ f y) → cond b (Some x) None ≡ option_map f (cond b (Some y) None)
by_case f true x y h = ap Some (h refl)
by_case f false x y h = refl

-- what the answer to a question for move k tells
pub move_some : (row : List ℕ) (k t : ℕ) → Some t ≡ move row k → (k < length row) × (get_or row k nowhere ≡ t)
move_some row k t e = grind (arith, nat_tests)
