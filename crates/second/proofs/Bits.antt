-- The rows of states by number: the states are its bits.
use Rattle.std.proofs.Common.{◌≡◌, ℕ, ◌/◌, ◌^◌, ◌<◌, ◌≤◌, Option, None, Some, sym, arith}
use Rattle.std.specs.Option.{SomeIff, unwrap_or}
use Rattle.std.proofs.Math.Nat.{div-eq_of_lt, lt_of_not-le}
use Rattle.std.proofs.Math.Pow.{pow_mono}

-- a shift by as many bits as there are leaves none
pub shifted : (bits t : ℕ) (o : Option ℕ) → bits < 2 ^ 32 → SomeIff o (t < 32) (bits / 2 ^ t) → unwrap_or o 0 ≡ bits / 2 ^ t
shifted bits t None few far =
    let past : 32 ≤ t = omega (arith, lt_of_not-le far) in
    sym (div-eq_of_lt (omega (arith, few, pow_mono past)))
shifted bits t (Some x) few is = is.1
