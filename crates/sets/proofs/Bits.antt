-- Laws of a number's bits.
use Rattle.std.proofs.Common.{◌≡◌, ℕ, zero, suc, ◌+◌, ◌-◌, ◌*◌, ◌/◌, ◌%◌, ◌^◌, ◌<◌, ◌≤◌, min, max, ◌⊎◌, ◌↔◌, sym, refl, ap, ◌∙◌, subst, inl, inr, ⊎_elim, arith}
use lib.Bits.{bit_and, bit_or, or_step, and_step, or_add_and}
use lib.Count.{count_trailing_zeros, under}
use Rattle.std.proofs.lemmas.Bool.{cases_eq, cases_lt}
use Rattle.std.proofs.lemmas.Nat.{or_shr, and_shr, shl-shr, pow-add, pow_pos, pow_below, div_below, shr-shr, and_le_r}
use Rattle.sets.specs.Sets.{bit}

-- bit k is set
abbrev pub On : ℕ → ℕ → Type 0
On x k = bit x k ≡ 1

add_one_is : (w : ℕ) → suc w ≡ w + 1
add_one_is w = omega arith

low_max : (q a b : ℕ) → (q * 2 + max (a % 2) (b % 2)) % 2 ≡ max (a % 2) (b % 2)
low_max q a b = omega arith

low_min : (q a b : ℕ) → (q * 2 + min (a % 2) (b % 2)) % 2 ≡ min (a % 2) (b % 2)
low_min q a b = omega arith

pub or_bit : (a b k : ℕ) → bit (bit_or a b) k ≡ max (bit a k) (bit b k)
or_bit a b k = ap (λ x. x % 2) (or_shr a b k ∙ or_step (a / 2 ^ k) (b / 2 ^ k)) ∙ low_max (bit_or (a / 2 ^ k / 2) (b / 2 ^ k / 2)) (a / 2 ^ k) (b / 2 ^ k)

pub and_bit : (a b k : ℕ) → bit (bit_and a b) k ≡ min (bit a k) (bit b k)
and_bit a b k = ap (λ x. x % 2) (and_shr a b k ∙ and_step (a / 2 ^ k) (b / 2 ^ k)) ∙ low_min (bit_and (a / 2 ^ k / 2) (b / 2 ^ k / 2)) (a / 2 ^ k) (b / 2 ^ k)

pub one_same : (k : ℕ) → bit (2 ^ k) k ≡ 1
one_same k =
    let e : 1 * 2 ^ k / 2 ^ k ≡ 1 = shl-shr 1 k in
    let f : 2 ^ k ≡ 1 * 2 ^ k = omega arith in
    ap (λ x. x / 2 ^ k % 2) f ∙ ap (λ x. x % 2) e

one_below : (j m : ℕ) → bit (2 ^ (m + 1 + j)) j ≡ 0
one_below j m =
    let e : 2 ^ (m + 1 + j) ≡ 2 ^ (m + 1) * 2 ^ j = pow-add 2 (m + 1) j in
    let f : 2 ^ (m + 1) ≡ 2 ^ m * 2 = pow-add 2 m 1 in
    let even : 2 ^ (m + 1) % 2 ≡ 0 = omega arith in
    ap (λ x. x / 2 ^ j % 2) e ∙ ap (λ x. x % 2) (shl-shr (2 ^ (m + 1)) j) ∙ even

one_above : (j k : ℕ) → k < j → bit (2 ^ k) j ≡ 0
one_above j k l =
    let b : 2 ^ k / 2 ^ j < 1 = div_below (2 ^ k) (2 ^ j) 1 (pow_pos j) (omega (arith, pow_below k j l)) in
    omega arith

pub one_other : (j k : ℕ) → (j ≡ k → ⊥) → bit (2 ^ k) j ≡ 0
one_other j k ne = ⊎_elim
    (λ lt. let e : k ≡ k - j - 1 + 1 + j = omega arith in ap (λ x. bit (2 ^ x) j) e ∙ one_below j (k - j - 1))
    (λ ge. one_above j k (omega arith))
    (cases_lt j k)

-- bit k + 1 of a number is bit k of its half
pub bit_half : (x k : ℕ) → bit x (suc k) ≡ bit (x / 2) k
bit_half x k =
    let e : x / 2 / 2 ^ k ≡ x / 2 ^ (1 + k) = shr-shr x 1 k in
    let f : suc k ≡ 1 + k = omega arith in
    ap (λ n. x / 2 ^ n % 2) f ∙ ap (λ y. y % 2) (sym e)

-- the bits of what is left of all ones
pub not_bit : (w k b : ℕ) → k < w → b < 2 ^ w → bit (2 ^ w - 1 - b) k ≡ 1 - bit b k
not_bit zero k b l h = absurd (omega arith)
not_bit (suc w) zero b l h =
    let p : 2 ^ suc w ≡ 2 ^ w * 2 = ap (λ n. 2 ^ n) (add_one_is w) ∙ pow-add 2 w 1 in
    omega (arith, pow_pos w)
not_bit (suc w) (suc k) b l h =
    let p : 2 ^ suc w ≡ 2 ^ w * 2 = ap (λ n. 2 ^ n) (add_one_is w) ∙ pow-add 2 w 1 in
    let half : (2 ^ suc w - 1 - b) / 2 ≡ 2 ^ w - 1 - b / 2 = omega (arith, pow_pos w) in
    bit_half (2 ^ suc w - 1 - b) k ∙ ap (λ x. bit x k) half ∙ not_bit w k (b / 2) (omega arith) (omega arith) ∙ ap (λ x. 1 - x) (sym (bit_half b k))

bit_two : (x k : ℕ) → bit x k < 2
bit_two x k = omega arith

pub in_dec : (x k : ℕ) → On x k ⊎ (On x k → ⊥)
in_dec x k = cases_eq (bit x k) 1

pub in_or : (a b j : ℕ) → On (bit_or a b) j ↔ (On a j ⊎ On b j)
in_or a b j = (
  λ h. ⊎_elim inl (λ n. let e : bit b j ≡ 1 = omega (arith, or_bit a b j, bit_two a j, bit_two b j) in inr e) (in_dec a j),
  ⊎_elim (λ h. omega (arith, or_bit a b j, bit_two b j)) (λ h. omega (arith, or_bit a b j, bit_two a j)),
)

pub in_and : (a b j : ℕ) → On (bit_and a b) j ↔ (On a j × On b j)
in_and a b j = (
  λ h. (omega (arith, and_bit a b j, bit_two a j, bit_two b j), omega (arith, and_bit a b j, bit_two a j, bit_two b j)),
  λ h. omega (arith, and_bit a b j, h.0, h.1),
)

pub in_one : (k j : ℕ) → On (2 ^ k) j ↔ (j ≡ k)
in_one k j = (
  λ h. ⊎_elim (λ e. e) (λ n. absurd (let z = one_other j k n in omega arith)) (cases_eq j k),
  λ e. ap (λ x. bit (2 ^ k) x) e ∙ one_same k,
)

pub in_not : (w x j : ℕ) → j < w → x < 2 ^ w → On (2 ^ w - 1 - x) j ↔ (On x j → ⊥)
in_not w x j l h = (
  λ p q. omega (arith, not_bit w j x l h),
  λ n. ⊎_elim (λ p. absurd (n p)) (λ o. omega (arith, not_bit w j x l h, bit_two x j)) (in_dec x j),
)

pub none_in : (j : ℕ) → On 0 j → ⊥
none_in j h =
    let b : 0 / 2 ^ j < 1 = div_below 0 (2 ^ j) 1 (pow_pos j) (omega (arith, pow_pos j)) in
    omega arith

pub all_in : (j : ℕ) → j < 128 → On (2 ^ 128 - 1 - 0) j
all_in j l = (in_not 128 0 j l (pow_pos 128)).1 (none_in j)

-- a number that is not 0 has a bit
pub some_in : (w x : ℕ) → x < 2 ^ w → 0 < x → (j : ℕ) × (j < w) × On x j
some_in zero x h p = absurd (omega arith)
some_in (suc w) x h p = ⊎_elim
    (λ e. (0, omega arith, low e))
    (λ n.
    let p2 : 2 ^ suc w ≡ 2 ^ w * 2 = ap (λ n. 2 ^ n) (add_one_is w) ∙ pow-add 2 w 1 in
    let r = some_in w (x / 2) (omega arith) (omega arith) in
    (suc r.0, omega (arith, r.1), bit_half x r.0 ∙ r.2))
    (cases_eq (x % 2) 1)
  where
    low : x % 2 ≡ 1 → On x 0
    low e = omega arith

pub or_grows : (a b : ℕ) → a ≤ bit_or a b
or_grows a b = omega (arith, or_add_and a b, and_le_r a b)

-- a number of w bits has none from w up
pub high_out : (w x k : ℕ) → x < 2 ^ w → w ≤ k → On x k → ⊥
high_out w x k fits past h =
    let room : 2 ^ w ≤ 2 ^ k = pow-up w k past in
    let b : x / 2 ^ k < 1 = div_below x (2 ^ k) 1 (pow_pos k) (omega arith) in
    omega arith
  where
    pow-up : (i j : ℕ) → i ≤ j → 2 ^ i ≤ 2 ^ j
    pow-up i j l = ⊎_elim (λ lt. omega (arith, pow_below i j lt)) (λ ge. let e : i ≡ j = omega arith in omega (arith, ap (λ n. 2 ^ n) e)) (cases_lt i j)

-- the lowest bit of a number that is not 0, and the number without it
pub record Lowest (w x k : ℕ) : Type 0 where
  pub small : k < w
  pub has : On x k
  pub least : (j : ℕ) → j < k → On x j → ⊥
  pub others : (j : ℕ) → (On x j × On (x - 1) j) ↔ (On x j × (j ≡ k → ⊥))

low_odd : (x : ℕ) → On x 0 ↔ (x % 2 ≡ 1)
low_odd x = ((λ h. omega arith), (λ h. omega arith))

half_of : (w : ℕ) → 2 ^ suc w ≡ 2 ^ w * 2
half_of w = ap (λ n. 2 ^ n) (add_one_is w) ∙ pow-add 2 w 1

-- of an odd number
lowest_odd : (w x : ℕ) → x % 2 ≡ 1 → Lowest (suc w) x 0
lowest_odd w x odd = record {
  small = omega arith;
  has = (low_odd x).1 odd;
  least = λ j l. absurd (omega arith);
  others = λ j. (
    λ p. (p.0, λ e. let z = (low_odd (x - 1)).0 (subst (λ (i : ℕ). On (x - 1) i) e p.1) in omega arith),
    λ p. (p.0, up j p.0 p.1),
  );
}
  where
    up : (j : ℕ) → On x j → (j ≡ 0 → ⊥) → On (x - 1) j
    up zero h n = absurd (n refl)
    up (suc j) h n =
        let same : (x - 1) / 2 ≡ x / 2 = omega arith in
        bit_half (x - 1) j ∙ ap (λ y. bit y j) same ∙ sym (bit_half x j) ∙ h

-- of an even number, from its half
lowest_even : (w x k : ℕ) → x % 2 ≡ 0 → 0 < x → Lowest w (x / 2) k → Lowest (suc w) x (suc k)
lowest_even w x k even some L = record {
  small = let s = L.small in omega arith;
  has = bit_half x k ∙ L.has;
  least = under;
  others = λ j. (
    λ p. (p.0, λ e. away j p.0 p.1 e),
    λ p. (p.0, up j p.0 p.1),
  );
}
  where
    half-less : (x - 1) / 2 ≡ x / 2 - 1
    half-less = omega arith

    below_half : (j : ℕ) → On (x - 1) (suc j) → On (x / 2 - 1) j
    below_half j h = ap (λ y. bit y j) (sym half-less) ∙ sym (bit_half (x - 1) j) ∙ h

    above_half : (j : ℕ) → On (x / 2 - 1) j → On (x - 1) (suc j)
    above_half j h = bit_half (x - 1) j ∙ ap (λ y. bit y j) half-less ∙ h

    under : (j : ℕ) → j < suc k → On x j → ⊥
    under zero l h = let z = (low_odd x).0 h in omega arith
    under (suc j) l h = L.least j (omega arith) (sym (bit_half x j) ∙ h)

    away : (j : ℕ) → On x j → On (x - 1) j → j ≡ suc k → ⊥
    away zero h g e = omega arith
    away (suc j) h g e = ((L.others j).0 (sym (bit_half x j) ∙ h, below_half j g)).1 (omega arith)

    up : (j : ℕ) → On x j → (j ≡ suc k → ⊥) → On (x - 1) j
    up zero h n = let z = (low_odd x).0 h in absurd (omega arith)
    up (suc j) h n = above_half j ((L.others j).1 (sym (bit_half x j) ∙ h, λ e. n (ap suc e))).1

lowest_by : (w x d t : ℕ) → 0 < x → x % 2 ≡ d → (x % 2 ≡ 0 → Lowest w (x / 2) t) → Lowest (suc w) x (under d t)
lowest_by w x zero t some e half = lowest_even w x t e some (half e)
lowest_by w x (suc d) t some e half = lowest_odd w x (omega arith)

pub lowest : (w x : ℕ) → 0 < x → x < 2 ^ w → Lowest w x (count_trailing_zeros w x)
unfolding count_trailing_zeros
lowest zero x some fits = absurd (omega arith)
lowest (suc w) x some fits =
    lowest_by w x (x % 2) (count_trailing_zeros w (x / 2)) some refl (λ even. lowest w (x / 2) (omega arith) (let p = half_of w in omega arith))

-- the bits of one less than a power of 2
pub below-bits : (n j : ℕ) → On (2 ^ n - 1) j ↔ (j < n)
below-bits n j = (
  λ h. ⊎_elim (λ l. l) (λ past. absurd (high_out n (2 ^ n - 1) j (omega (arith, pow_pos n)) past h)) (cases_lt j n),
  λ l.
      let e : 2 ^ n - 1 - 0 ≡ 2 ^ n - 1 = omega arith in
      subst (λ (x : ℕ). On x j) e ((in_not n 0 j l (pow_pos n)).1 (none_in j)),
)

-- two numbers of w bits with the same bits are equal
pub same_bits : (w x y : ℕ) → x < 2 ^ w → y < 2 ^ w → ((j : ℕ) → j < w → On x j ↔ On y j) → x ≡ y
same_bits zero x y fx fy same = omega arith
same_bits (suc w) x y fx fy same =
    let p = half_of w in
    let low : On x 0 ↔ On y 0 = same 0 (omega arith) in
    let halves : x / 2 ≡ y / 2 = same_bits w (x / 2) (y / 2) (omega arith) (omega arith) (λ j l.
    let s = same (suc j) (omega arith) in (
      (λ h. sym (bit_half y j) ∙ s.0 (bit_half x j ∙ h)),
      (λ h. sym (bit_half x j) ∙ s.1 (bit_half y j ∙ h)),
    )) in
    let odd : x % 2 ≡ y % 2 = ⊎_elim
    (λ e. let h = (low_odd y).0 (low.0 ((low_odd x).1 e)) in omega arith)
    (λ n. ⊎_elim (λ e. let h = (low_odd x).0 (low.1 ((low_odd y).1 e)) in omega arith) (λ m. omega arith) (cases_eq (y % 2) 1))
    (cases_eq (x % 2) 1) in
    omega arith
