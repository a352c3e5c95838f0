-- Numbers by their bits, as tests.
use Rattle.std.proofs.Common.{◌≡◌, ℕ, ◌/◌, ◌%◌, ◌^◌, ◌<◌, arith}
use Rattle.std.proofs.lemmas.Bool.Decides.{nat_tests}
use Rattle.std.proofs.lemmas.Nat.Bits.{bit_at-lt, same_from_bits_below}
use Rattle.kripke.specs.Words.{bit}

same_digit : (x y a : ℕ) → bit x a ≡ bit y a → x / 2 ^ a % 2 ≡ y / 2 ^ a % 2
same_digit x y a e = grind (arith, nat_tests, bit_at-lt x a, bit_at-lt y a)

-- two numbers below 2 ^ n are equal where their n lowest bits are
pub same_from_bits : (n x y : ℕ) → x < 2 ^ n → y < 2 ^ n → ((a : ℕ) → a < n → bit x a ≡ bit y a) → x ≡ y
same_from_bits n x y p q h = same_from_bits_below n x y p q (λ a l. same_digit x y a (h a l))
