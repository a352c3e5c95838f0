-- A set of numbers below 128 by its two halves.
use Rattle.std.proofs.Common.{◌≡◌, ℕ, ◌+◌, ◌-◌, ◌*◌, ◌/◌, ◌%◌, ◌^◌, ◌<◌, ◌≤◌, ◌⊎◌, ◌↔◌, List, length, get_or, set, sym, ap, ◌∙◌, subst, inl, inr, ⊎_elim, arith}
use lib.Bits.{bit_or}
use Rattle.std.proofs.Math.Nat.{mul_assoc}
use Rattle.std.proofs.lemmas.Bool.{cases_lt}
use Rattle.std.proofs.lemmas.List.{get_or-set_same, get_or-set_other}
use Rattle.std.proofs.lemmas.List.{get_or-set_same, get_or-set_other}
use Rattle.std.proofs.lemmas.Nat.{or_lt, or_shifted, pow-add, pow_below, shl-shr, shr-shr}
use Rattle.sets.specs.Sets.{bit}
use Rattle.sets.proofs.Bits.{On, in_or, in_one, high_out}

-- the bits of a number that stands 64 places higher
raised : (high j : ℕ) → On (high * 2 ^ 64) j ↔ ((64 ≤ j) × On high (j - 64))
raised high j = (
  λ h. ⊎_elim (λ l. absurd (low l h)) (λ g. (omega arith, sym (above (omega arith)) ∙ h)) (cases_lt j 64),
  λ p. above p.0 ∙ p.1,
)
  where
    above : 64 ≤ j → bit (high * 2 ^ 64) j ≡ bit high (j - 64)
    above g =
        let e : 64 + (j - 64) ≡ j = omega arith in
        ap (λ n. high * 2 ^ 64 / 2 ^ n % 2) (sym e) ∙ ap (λ x. x % 2) (sym (shr-shr (high * 2 ^ 64) 64 (j - 64))) ∙ ap (λ x. x / 2 ^ (j - 64) % 2) (shl-shr high 64)

    low : j < 64 → On (high * 2 ^ 64) j → ⊥
    low l h =
        let e : 63 - j + 1 + j ≡ 64 = omega arith in
        let split : 2 ^ 64 ≡ 2 ^ (63 - j) * 2 * 2 ^ j = ap (λ n. 2 ^ n) (sym e) ∙ pow-add 2 (63 - j + 1) j ∙ ap (λ x. x * 2 ^ j) (pow-add 2 (63 - j) 1) in
        let whole : high * 2 ^ 64 ≡ high * 2 ^ (63 - j) * 2 * 2 ^ j = ap (λ x. high * x) split ∙ sym (mul_assoc high (2 ^ (63 - j) * 2) (2 ^ j)) ∙ ap (λ x. x * 2 ^ j) (sym (mul_assoc high (2 ^ (63 - j)) 2)) in
        let half : bit (high * 2 ^ 64) j ≡ high * 2 ^ (63 - j) * 2 % 2 = ap (λ x. x / 2 ^ j % 2) whole ∙ ap (λ x. x % 2) (shl-shr (high * 2 ^ (63 - j) * 2) j) in
        omega arith

-- a number is in a set by its half
pub in_halves : (low high j : ℕ) → low < 2 ^ 64 → On (low + high * 2 ^ 64) j ↔ (On low j ⊎ ((64 ≤ j) × On high (j - 64)))
in_halves low high j fits =
    let e : bit_or (high * 2 ^ 64) low ≡ low + high * 2 ^ 64 = or_shifted high 64 low fits ∙ omega arith in
    subst (λ x. On x j ↔ (On low j ⊎ ((64 ≤ j) × On high (j - 64)))) e (
      (λ h. ⊎_elim (λ a. inr ((raised high j).0 a)) inl ((in_or (high * 2 ^ 64) low j).0 h)),
      (λ p. (in_or (high * 2 ^ 64) low j).1 (⊎_elim inr (λ a. inl ((raised high j).1 a)) p)),
    )

-- a bit more in the low half
pub add_low : (low high k j : ℕ) → low < 2 ^ 64 → bit_or low (2 ^ k) < 2 ^ 64 → On (bit_or low (2 ^ k) + high * 2 ^ 64) j ↔ (On (low + high * 2 ^ 64) j ⊎ (j ≡ k))
add_low low high k j fits fits' =
    let new = in_halves (bit_or low (2 ^ k)) high j fits' in
    let old = in_halves low high j fits in (
      (λ h. ⊎_elim (λ a. ⊎_elim (λ b. inl (old.1 (inl b))) (λ b. inr ((in_one k j).0 b)) ((in_or low (2 ^ k) j).0 a)) (λ b. inl (old.1 (inr b))) (new.0 h)),
      (λ h. new.1 (⊎_elim (λ o. ⊎_elim (λ b. inl ((in_or low (2 ^ k) j).1 (inl b))) inr (old.0 o)) (λ e. inl ((in_or low (2 ^ k) j).1 (inr ((in_one k j).1 e)))) h)),
    )

-- a bit more in the high half
pub add_high : (low high k j : ℕ) → low < 2 ^ 64 → On (low + bit_or high (2 ^ k) * 2 ^ 64) j ↔ (On (low + high * 2 ^ 64) j ⊎ (j ≡ 64 + k))
add_high low high k j fits =
    let new = in_halves low (bit_or high (2 ^ k)) j fits in
    let old = in_halves low high j fits in (
      (λ h. ⊎_elim
          (λ a. inl (old.1 (inl a)))
          (λ p. ⊎_elim (λ b. inl (old.1 (inr (p.0, b)))) (λ b. let e = (in_one k (j - 64)).0 b in inr (omega (arith, p.0, e))) ((in_or high (2 ^ k) (j - 64)).0 p.1))
          (new.0 h)),
      (λ h. new.1 (⊎_elim
          (λ o. ⊎_elim inl (λ p. inr (p.0, (in_or high (2 ^ k) (j - 64)).1 (inl p.1))) (old.0 o))
          (λ e. inr (omega (arith, e), (in_or high (2 ^ k) (j - 64)).1 (inr ((in_one k (j - 64)).1 (omega (arith, e))))))
          h)),
    )

-- the number whose bits the two halves are
abbrev pub joined : List ℕ → ℕ
joined halves = get_or halves 0 0 + get_or halves 1 0 * 2 ^ 64

-- the half that has k gets its bit
module _ (halves : List ℕ) (k : ℕ) (two : length halves ≡ 2) (fits : (i : ℕ) → get_or halves i 0 < 2 ^ 64) (low : k < 128) where
  abbrev i : ℕ
  i = k / 64

  abbrev one : ℕ
  one = 1 * 2 ^ (k % 64) % 2 ^ 64

  one_is : one ≡ 2 ^ (k % 64)
  one_is = let p = pow_below (k % 64) 64 (omega arith) in omega (arith, p)

  abbrev halves' : List ℕ
  halves' = set halves i (bit_or (get_or halves i 0) one)

  value : ℕ
  value = bit_or (get_or halves i 0) one

  same : get_or halves' i 0 ≡ value
  unfolding value
  same = get_or-set_same halves i (bit_or (get_or halves i 0) one) 0 (omega arith)

  other : (n : ℕ) → (n ≡ i → ⊥) → get_or halves' n 0 ≡ get_or halves n 0
  other n ne = get_or-set_other halves i n (bit_or (get_or halves i 0) one) 0 ne

  -- the new half, where half n has k at place m
  half : (n m : ℕ) → i ≡ n → k % 64 ≡ m → get_or halves' n 0 ≡ bit_or (get_or halves n 0) (2 ^ m)
  unfolding value
  half n m at place =
      ap (λ x. get_or halves' x 0) (sym at) ∙ same ∙ ap (λ x. bit_or (get_or halves x 0) one) at
      ∙ ap (λ x. bit_or (get_or halves n 0) x) (one_is ∙ ap (λ x. 2 ^ x) place)

  small : get_or halves' i 0 < 2 ^ 64
  unfolding value
  small =
      let v : bit_or (get_or halves i 0) one < 2 ^ 64 = or_lt 64 (get_or halves i 0) one (fits i) (omega arith) in
      subst (λ x. x < 2 ^ 64) (sym same) v

  pub added : (j : ℕ) → On (joined halves') j ↔ (On (joined halves) j ⊎ ((j ≡ k) × (k < 128)))
  added j = ⊎_elim
      (λ l.
      let at : i ≡ 0 = omega arith in
      let new = half 0 k at (omega arith) in
      let old = other 1 (λ e. omega arith) in
      let is : joined halves' ≡ bit_or (get_or halves 0 0) (2 ^ k) + get_or halves 1 0 * 2 ^ 64 = ap (λ x. x + get_or halves' 1 0 * 2 ^ 64) new ∙ ap (λ x. bit_or (get_or halves 0 0) (2 ^ k) + x * 2 ^ 64) old in
      let room : bit_or (get_or halves 0 0) (2 ^ k) < 2 ^ 64 = subst (λ x. x < 2 ^ 64) new (subst (λ n. get_or halves' n 0 < 2 ^ 64) at small) in
      let a = add_low (get_or halves 0 0) (get_or halves 1 0) k j (fits 0) room in
      subst (λ x. On x j ↔ (On (joined halves) j ⊎ ((j ≡ k) × (k < 128)))) (sym is) (
        (λ h. ⊎_elim inl (λ e. inr (e, low)) (a.0 h)),
        (λ h. a.1 (⊎_elim inl (λ p. inr p.0) h)),
      ))
      (λ g.
      let at : i ≡ 1 = omega arith in
      let new = half 1 (k - 64) at (omega arith) in
      let old = other 0 (λ e. omega arith) in
      let is : joined halves' ≡ get_or halves 0 0 + bit_or (get_or halves 1 0) (2 ^ (k - 64)) * 2 ^ 64 = ap (λ x. x + get_or halves' 1 0 * 2 ^ 64) old ∙ ap (λ x. get_or halves 0 0 + x * 2 ^ 64) new in
      let a = add_high (get_or halves 0 0) (get_or halves 1 0) (k - 64) j (fits 0) in
      subst (λ x. On x j ↔ (On (joined halves) j ⊎ ((j ≡ k) × (k < 128)))) (sym is) (
        (λ h. ⊎_elim inl (λ e. inr (omega (arith, e, g), low)) (a.0 h)),
        (λ h. a.1 (⊎_elim inl (λ p. inr (omega (arith, p.0, g))) h)),
      ))
      (cases_lt k 64)
