-- How many digits a number has, told by its logarithm.
use Rattle.std.proofs.Common.{◌≡◌, ℕ, zero, suc, ◌+◌, ◌-◌, ◌*◌, ◌/◌, ◌^◌, ◌<◌, ◌≤◌, length, decimal, refl, sym, subst, ap, ◌∙◌, arith, pow-suc, pow_mono, pow-add, lt_of_lt_of_le, one-mul, le_trans, div-le_self, mul-le-mul_right, le-div_iff_mul-le, div-lt_iff_lt-mul, length-append}
use native.Mathlib.Nat.{pow-zero, one-le-pow}
use Rattle.std.proofs.lemmas.Fmt.{decimal_digit, decimal_step}
use Rattle.codec.specs.Numbers.{code}
use Rattle.codec.proofs.Coding.{width_last, width_more}

-- w tells how many digits the numbers up to most have in base b
pub record Widths (b most : ℕ) (w : ℕ → ℕ) : Type 0 where
  pub more : 1 < b
  pub last : (n : ℕ) → n < b → w n ≡ 1
  pub next : (n : ℕ) → n ≤ most → b ≤ n → w n ≡ w (n / b) + 1

pub width_by_power : (b most : ℕ) (w : ℕ → ℕ) → Widths b most w → (k n : ℕ) → n ≤ most → b ^ k ≤ n → n < b ^ suc k → w n ≡ k + 1
width_by_power b most w p zero n few lo hi =
    let one : b ^ 1 ≡ b = pow-suc b 0 ∙ ap (λ x. x * b) (pow-zero b) ∙ one-mul b in
    p.last n (omega (arith, one))
width_by_power b most w p (suc k) n few lo hi =
    let some : 0 < b = omega (arith, p.more) in
    let power : b ^ k * b ≤ n = rw (← pow-suc b k) lo in
    let down : b ^ k ≤ n / b = (le-div_iff_mul-le some).1 power in
    let base : b ≤ n = le_trans {m = b ^ k * b} (subst (λ x. x ≤ b ^ k * b) (one-mul b) (mul-le-mul_right b (one-le-pow k b some))) power in
    let up : n / b < b ^ suc k = (div-lt_iff_lt-mul some).1 (rw (← pow-suc b (suc k)) hi) in
    let small : n / b ≤ most = le_trans (div-le_self n b) few in
    omega (arith, p.next n few base, width_by_power b most w p k (n / b) small down up)

-- seven bits to a byte
coded : (most : ℕ) → Widths 128 most (λ n. length (code n))
coded most = record { more = omega arith; last = width_last; next = λ n few. width_more n }

pub pow-128 : (k : ℕ) → 128 ^ k ≡ 2 ^ (7 * k)
pow-128 zero = refl
pow-128 (suc k) = rw (pow-suc 128 k, pow-128 k) (sym (ap (λ j. 2 ^ j) (omega arith) ∙ pow-add 2 (7 * k) 7))

pub width_by_bits : (n k : ℕ) → 2 ^ k ≤ n → n < 2 * 2 ^ k → length (code n) ≡ k / 7 + 1
width_by_bits n k lo hi =
    let j = k / 7 in
    let down : 128 ^ j ≤ n = rw (pow-128 j) (le_trans (pow_mono {i = 7 * j} {j = k} (omega arith)) lo) in
    let up : n < 128 ^ suc j = rw (pow-128 (suc j)) (lt_of_lt_of_le (rw (pow-suc 2 k) (omega arith)) (pow_mono {i = suc k} {j = 7 * suc j} (omega arith))) in
    width_by_power 128 n (λ m. length (code m)) (coded n) j n (omega arith) down up

pub width_zero : (n : ℕ) → n ≡ 0 → length (code n) ≡ 1
width_zero n e = width_last n (omega arith)

-- ten digits
decimals : Widths 10 (2 ^ 64 - 1) (λ n. length (decimal n))
decimals = record { more = omega arith; last = λ n l. ap length (decimal_digit n l); next = λ n few l. ap length (decimal_step n l (omega arith)) ∙ length-append (decimal (n / 10)) _ }

pub digits_by_power : (n k : ℕ) → n < 2 ^ 64 → 10 ^ k ≤ n → n < 10 * 10 ^ k → length (decimal n) ≡ k + 1
digits_by_power n k small lo hi = width_by_power 10 (2 ^ 64 - 1) (λ m. length (decimal m)) decimals k n (omega arith) lo (omega (arith, pow-suc 10 k))

pub digits_zero : (n : ℕ) → n ≡ 0 → length (decimal n) ≡ 1
digits_zero n e = ap length (decimal_digit n (omega arith))
