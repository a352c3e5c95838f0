-- How many lists there are, where their length is too large to be the exponent.
use Rattle.std.proofs.Common.{◌≡◌, ℕ, zero, suc, ◌-◌, ◌^◌, ◌<◌, ◌≤◌, Option, None, Some, Result, Ok, Err, sym, ap, ◌∙◌, subst, arith}
use Rattle.std.specs.Option.{SomeIff}
use Rattle.std.specs.Result.{OkIff, result_unwrap_or}
use Rattle.std.proofs.Math.Nat.{mul-zero, mul-one, pow-zero, pow-suc, pow-le-pow_left, pow-le-pow_right, lt_of_not-le}
use Rattle.std.proofs.Math.Pow.{pow_mono}

zero_pow : (n : ℕ) → 0 < n → 0 ^ n ≡ 0
zero_pow n some = let next : n ≡ suc (n - 1) = omega (arith, some) in ap (λ k. 0 ^ k) next ∙ (pow-suc 0 (n - 1) ∙ mul-zero (0 ^ (n - 1)))

one_pow : (n : ℕ) → 1 ^ n ≡ 1
one_pow zero = pow-zero 1
one_pow (suc n) = pow-suc 1 n ∙ (mul-one (1 ^ n) ∙ one_pow n)

-- of two exponents from 64 on, either tells whether the power is below 2 ^ 64, and which it then is
module _ (m n : ℕ) (far : 64 ≤ m) (less : m ≤ n) where
  same_power : (b : ℕ) → b ^ m < 2 ^ 64 → b ^ m ≡ b ^ n
  same_power zero small = zero_pow m (omega (arith, far)) ∙ sym (zero_pow n (omega (arith, far, less)))
  same_power (suc zero) small = one_pow m ∙ sym (one_pow n)
  same_power (suc (suc b)) small =
      let two : 2 ≤ suc (suc b) = omega arith in
      absurd (omega (arith, small, pow_mono far, pow-le-pow_left two m))

  lower : (b : ℕ) → b ^ n < 2 ^ 64 → b ^ m < 2 ^ 64
  lower zero small = rw (zero_pow m (omega (arith, far))) (omega arith)
  lower (suc b) small = let some : 0 < suc b = omega arith in omega (arith, small, pow-le-pow_right some less)

  pub past : (b : ℕ) (o : Option ℕ) → SomeIff o (b ^ m < 2 ^ 64) (b ^ m) → SomeIff o (b ^ n < 2 ^ 64) (b ^ n)
  past b None over = λ small. over (lower b small)
  past b (Some x) told = let same = same_power b told.0 in (subst (λ k. k < 2 ^ 64) same told.0, told.1 ∙ same)

-- the length as an exponent, or the largest exponent in its place
pub counted : {E : Type 0} (b len places : ℕ) (r : Result ℕ E) (o : Option ℕ) → OkIff r (len < 2 ^ 32) len → places ≡ result_unwrap_or r (2 ^ 32 - 1) →
    SomeIff o (b ^ places < 2 ^ 64) (b ^ places) → SomeIff o (b ^ len < 2 ^ 64) (b ^ len)
counted b len places (Ok x) o fits is told = subst (λ k. SomeIff o (b ^ k < 2 ^ 64) (b ^ k)) (is ∙ fits.1) told
counted b len places (Err e) o long is told = past places len (omega (arith, is)) (omega (arith, is, lt_of_not-le long)) b o told
