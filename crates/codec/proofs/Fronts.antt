-- A number read from the front of some bytes, one byte after another.
use Rattle.std.proofs.Common.{◌≡◌, ℕ, zero, suc, ◌+◌, ◌-◌, ◌*◌, ◌/◌, ◌%◌, ◌^◌, ◌<◌, ◌≤◌, ◌⊎◌, List, [], ◌∷◌, ◌++◌, length, get_or, take, drop, sym, refl, ap, ◌∙◌, subst, inl, inr, pow-suc, add-one, pow_mono, mul-le-mul_right, arith}
use native.Mathlib.Nat.{pow-zero, one-le-pow}
use Rattle.std.specs.List.{AllByRecursion}
use Rattle.std.proofs.ByRecursion.{All-push}
use Rattle.std.proofs.lemmas.Bool.{cases_lt}
use Rattle.std.proofs.lemmas.List.{append_assoc, append-nil, drop-drop, drop_more, get_or-drop, length-drop, length-take, length-take-le, take-append-drop, take-take, take_all, take_at, take_more}
use Rattle.codec.specs.Numbers.{code}
use Rattle.codec.specs.Reading.{Begins, Endless, Refused}
use Rattle.codec.specs.declared.numbers.Flaw.TheVariants.{NotFewest}
use Rattle.codec.proofs.Coding.{code_few, code_last, code_more, code_on}
use Rattle.codec.proofs.Standing.{ends, same_front}
use Rattle.codec.proofs.Widths.{pow-128}

-- a byte behind which a number goes on
pub record Marked (b : ℕ) : Type 0 where
  pub low : 128 ≤ b
  pub byte : b < 256

-- what such bytes stand for, the lowest seven bits first
abbrev pub lows : List ℕ → ℕ
lows [] = 0
lows (b ∷ bs) = (b - 128) + 128 * lows bs

step : (g p low : ℕ) → g + 128 * (low + p) ≡ (g + 128 * low) + 128 * p
step g p low = omega arith

carried : (g p : ℕ) → g * (p * 128) ≡ 128 * (g * p)
carried g p = omega arith

lows-push : (bs : List ℕ) (b : ℕ) → lows (bs ++ (b ∷ [])) ≡ lows bs + (b - 128) * 128 ^ length bs
lows-push [] b = omega (arith, pow-zero 128)
lows-push (c ∷ bs) b =
    ap (λ n. (c - 128) + 128 * n) (lows-push bs b)
    ∙ (step (c - 128) ((b - 128) * 128 ^ length bs) (lows bs)
    ∙ ap (λ n. ((c - 128) + 128 * lows bs) + n) (sym (ap (λ p. (b - 128) * p) (pow-suc 128 (length bs)) ∙ carried (b - 128) (128 ^ length bs))))

lows_small : (bs : List ℕ) → AllByRecursion Marked bs → lows bs < 128 ^ length bs
lows_small [] h = omega (arith, pow-zero 128)
lows_small (b ∷ bs) h = omega (arith, lows_small bs h.1, h.0.byte, pow-suc 128 (length bs))

-- behind marked bytes a number that is not 0 goes on
chain : (bs : List ℕ) (high : ℕ) → AllByRecursion Marked bs → 0 < high → code (lows bs + high * 128 ^ length bs) ≡ bs ++ code high
chain [] high h some = ap code (omega (arith, pow-zero 128))
chain (b ∷ bs) high h some =
    let inner = lows bs + high * 128 ^ length bs in
    let whole : (b - 128) + 128 * lows bs + high * 128 ^ suc (length bs) ≡ inner * 128 + (b - 128) =
    ap (λ p. (b - 128) + 128 * lows bs + high * p) (pow-suc 128 (length bs)) ∙ omega arith in
    let power : 1 ≤ 128 ^ length bs = one-le-pow (length bs) 128 (omega arith) in
    let more : 0 < inner = omega (arith, mul-le-mul_right (128 ^ length bs) some) in
    ap code whole ∙ (code_on b inner h.0.low h.0.byte more ∙ ap (λ cs. b ∷ cs) (chain bs high h.1 some))

endless_front : (bs : List ℕ) (j : ℕ) → AllByRecursion Marked bs → Endless (take j bs)
endless_front [] zero h = tt
endless_front [] (suc j) h = tt
endless_front (b ∷ bs) zero h = tt
endless_front (b ∷ bs) (suc j) h = (h.0.low, endless_front bs j h.1)

-- what stands in the way of a number stands in its way behind one more byte
refused_on : (b : ℕ) (bs : List ℕ) → 128 ≤ b → Refused NotFewest bs → Refused NotFewest (b ∷ bs)
refused_on b bs h r = (
  λ e. r.0 e.1,
  λ n rest small e. elim (cases_lt n 128) [
    | inl a ↦
        let p : b ∷ bs ≡ n ∷ rest = rw (code_last n a) at e in
        let q : b ≡ n = cc in
        omega arith
    | inr a ↦
        let p : b ∷ bs ≡ (n % 128 + 128) ∷ (code (n / 128) ++ rest) = rw (code_more n a) at e in
        let q : bs ≡ code (n / 128) ++ rest = cc in
        r.1 (n / 128) rest (omega arith) q
  ],
)

-- a last byte with no more bits, behind others
zero_behind : (bs rest : List ℕ) → AllByRecursion Marked bs → 0 < length bs → Refused NotFewest (bs ++ (0 ∷ rest))
zero_behind [] rest h some = absurd (omega arith)
zero_behind (b ∷ []) rest h some =
    let marked = h.0.low in (
      λ e. omega (arith, e.1.0),
      λ n after small e. elim (cases_lt n 128) [
        | inl a ↦
            let p : b ∷ 0 ∷ rest ≡ n ∷ after = rw (code_last n a) at e in
            let q : b ≡ n = cc in
            omega arith
        | inr a ↦
            let p : b ∷ 0 ∷ rest ≡ (n % 128 + 128) ∷ (code (n / 128) ++ after) = rw (code_more n a) at e in
            let q : 0 ∷ rest ≡ code (n / 128) ++ after = cc in
            let nothing : code 0 ++ rest ≡ code (n / 128) ++ after = ap (λ bs. bs ++ rest) (code_last 0 (omega arith)) ∙ q in
            let same : 0 ≡ n / 128 = (same_front 0 (n / 128) rest after nothing).0 in
            omega arith
      ],
    )
zero_behind (b ∷ c ∷ bs) rest h some = refused_on b (c ∷ (bs ++ (0 ∷ rest))) h.0.low (zero_behind (c ∷ bs) rest h.1 (omega arith))

-- k bytes are read, which stand for so much, and a 1 in the next for so much more
pub record Front (bytes : List ℕ) (k low scale : ℕ) : Type 0 where
  pub few : k ≤ 9
  pub marked : AllByRecursion Marked (take k bytes)
  pub stand : low ≡ lows (take k bytes)
  pub scaled : scale ≡ 128 ^ k

pub front_none : (bytes : List ℕ) → Front bytes 0 0 1
front_none bytes = record { few = omega arith; marked = tt; stand = refl; scaled = sym (pow-zero 128) }

module _ (bytes : List ℕ) (k low scale : ℕ) (front : Front bytes k low scale) (more : k < length bytes) (byte : get_or bytes k 0 < 256) where
  abbrev pub b : ℕ
  b = get_or bytes k 0

  -- how much is read is told by the scale
  scale_is : scale ≡ 128 ^ length (take k bytes)
  scale_is = front.scaled ∙ ap (λ n. 128 ^ n) (sym (length-take-le k bytes (omega arith)))

  scale_most : (j : ℕ) → k ≤ j → scale ≤ 2 ^ (7 * j)
  scale_most j h = omega (arith, front.scaled, pow-128 k, pow_mono {i = 7 * k} {j = 7 * j} (omega arith))

  below : low < scale
  below = omega (arith, lows_small (take k bytes) front.marked, front.stand, scale_is)

  -- what is added leaves the sum below 2^64
  pub last_fits : b < 128 → (1 < b → k ≡ 9 → ⊥) → low + b * scale < 2 ^ 64
  last_fits last small =
      let few = front.few in
      elim (cases_lt k 9) [
        | inl l ↦
            let times : b * scale ≤ 127 * scale = mul-le-mul_right scale (omega arith) in
            omega (arith, times, below, scale_most 8 (omega arith))
        | inr l ↦
            let bit : b ≤ 1 = elim (cases_lt 1 b) [ inl two ↦ absurd (small two (omega arith)) | inr one ↦ one ] in
            let times : b * scale ≤ 1 * scale = mul-le-mul_right scale bit in
            omega (arith, times, below, scale_most 9 few)
      ]

  pub more_fits : k < 9 → low + (b - 128) * scale < 2 ^ 64
  more_fits few =
      let times : (b - 128) * scale ≤ 127 * scale = mul-le-mul_right scale (omega arith) in
      omega (arith, times, below, scale_most 8 (omega arith))

  pub scale_fits : k < 9 → scale * 128 < 2 ^ 64
  scale_fits few = omega (arith, scale_most 8 (omega arith))

  split : bytes ≡ take k bytes ++ (b ∷ drop (k + 1) bytes)
  split = sym (take-append-drop k bytes) ∙ ap (λ bs. take k bytes ++ bs) (drop_more bytes k 0 more)

  -- the number goes on
  pub front_more : 128 ≤ b → k < 9 → Front bytes (k + 1) (low + (b - 128) * scale) (scale * 128)
  front_more high few = record {
    few = omega arith;
    marked = rw (take_more bytes k 0 more) (All-push Marked (take k bytes) b front.marked (record { low = high; byte = byte }));
    stand = rw (take_more bytes k 0 more) (ap (λ n. n + (b - 128) * scale) front.stand ∙ (ap (λ p. lows (take k bytes) + (b - 128) * p) scale_is ∙ sym (lows-push (take k bytes) b)));
    scaled = ap (λ p. p * 128) front.scaled ∙ (sym (pow-suc 128 k) ∙ ap (λ n. 128 ^ n) (sym (add-one k)));
  }

  -- what it is where it ends with some bits
  with_bits : b < 128 → 0 < b → Begins bytes (low + b * scale) (drop (k + 1) bytes)
  with_bits last some =
      let number : low + b * scale ≡ lows (take k bytes) + b * 128 ^ length (take k bytes) = ap (λ n. n + b * scale) front.stand ∙ ap (λ p. lows (take k bytes) + b * p) scale_is in
      let coded : code (low + b * scale) ≡ take k bytes ++ (b ∷ []) = ap code number ∙ (chain (take k bytes) b front.marked some ∙ ap (λ bs. take k bytes ++ bs) (code_last b last)) in
      split ∙ (sym (append_assoc (take k bytes) (b ∷ []) (drop (k + 1) bytes)) ∙ ap (λ bs. bs ++ drop (k + 1) bytes) (sym coded))

  -- it ends
  pub front_ends : b < 128 → (0 < b) ⊎ (k ≡ 0) → Begins bytes (low + b * scale) (drop (k + 1) bytes)
  front_ends last (inl some) = with_bits last some
  front_ends last (inr none) =
      let nothing : take k bytes ≡ [] = ap (λ n. take n bytes) none in
      let one : scale ≡ 1 = front.scaled ∙ ap (λ n. 128 ^ n) none in
      let number : low + b * scale ≡ b = ap (λ n. n + b * scale) (front.stand ∙ ap lows nothing) ∙ (ap (λ p. 0 + b * p) one ∙ omega arith) in
      split ∙ (ap (λ bs. bs ++ (b ∷ drop (k + 1) bytes)) nothing ∙ ap (λ bs. bs ++ drop (k + 1) bytes) (sym (ap code number ∙ code_last b last)))

  -- it ends with no more bits
  pub front_zero : b ≡ 0 → 0 < k → Refused NotFewest bytes
  front_zero none some =
      subst (Refused NotFewest) (sym (split ∙ ap (λ x. take k bytes ++ (x ∷ drop (k + 1) bytes)) none))
      (zero_behind (take k bytes) (drop (k + 1) bytes) front.marked (omega (arith, length-take-le k bytes (omega arith))))

  -- it ends, and is 2^64 or more
  pub front_large : 1 < b → b < 128 → k ≡ 9 → Refused NotFewest bytes
  front_large large last ten =
      let begins = with_bits last (omega arith) in
      let scaled : scale ≡ 2 ^ 63 = front.scaled ∙ ap (λ n. 128 ^ n) ten in
      let much : 2 ^ 64 ≤ low + b * scale = omega (arith, mul-le-mul_right scale large) in (
        λ e. ends (low + b * scale) (drop (k + 1) bytes) (subst Endless begins e),
        λ n rest small other. let same = (same_front (low + b * scale) n (drop (k + 1) bytes) rest (sym begins ∙ other)).0 in omega arith,
      )

  -- it goes on behind ten bytes
  pub front_long : 128 ≤ b → k ≡ 9 → (Endless bytes → ⊥) → Refused NotFewest bytes
  front_long high ten end = (
    end,
    λ n rest small begins.
        let short : length (code n) ≤ k + 1 = omega (arith, code_few n small) in
        let marked : AllByRecursion Marked (take (k + 1) bytes) = rw (take_more bytes k 0 more) (All-push Marked (take k bytes) b front.marked (record { low = high; byte = byte })) in
        let front_is : take (length (code n)) (take (k + 1) bytes) ≡ code n ++ [] =
        take-take (length (code n)) (k + 1) bytes short ∙ (ap (take (length (code n))) begins ∙ (take_at (code n) rest (length (code n)) refl ∙ sym (append-nil (code n)))) in
        ends n [] (subst Endless front_is (endless_front (take (k + 1) bytes) (length (code n)) marked)),
  )

pub front_endless : (bytes : List ℕ) (k low scale : ℕ) → Front bytes k low scale → length bytes ≤ k → Endless bytes
front_endless bytes k low scale front all = subst Endless (take_all k bytes all) (subst Endless (take_all k (take k bytes) (omega (arith, length-take k bytes))) (endless_front (take k bytes) k front.marked))

endless_drop : (k : ℕ) (bs : List ℕ) → Endless bs → Endless (drop k bs)
endless_drop zero bs e = e
endless_drop (suc k) [] e = e
endless_drop (suc k) (b ∷ bs) e = endless_drop k bs e.1

endless_on : (bs cs : List ℕ) → AllByRecursion Marked bs → Endless cs → Endless (bs ++ cs)
endless_on [] cs m e = e
endless_on (b ∷ bs) cs m e = (m.0.low, endless_on bs cs m.1 e)

pub some_left : (left : List ℕ) → (Endless left → ⊥) → 0 < length left
some_left [] end = absurd (end tt)
some_left (b ∷ bs) end = omega arith

-- left is what follows the bytes that are read
module _ (bytes left : List ℕ) (k low scale : ℕ) (front : Front bytes k low scale) (is : left ≡ drop k bytes) where
  -- it goes on for ever where what is left does
  pub left_endless : Endless left → Endless bytes
  left_endless e = subst Endless (take-append-drop k bytes) (endless_on (take k bytes) (drop k bytes) front.marked (subst Endless is e))

  pub left_none : length left ≤ 0 → Endless bytes
  left_none none = front_endless bytes k low scale front (omega (arith, none, ap length is, length-drop k bytes))

  module _ (some : 0 < length left) (byte : get_or left 0 0 < 256) where
    abbrev first : ℕ
    first = get_or left 0 0

    there : k < length bytes
    there = omega (arith, some, ap length is, length-drop k bytes)

    same : get_or bytes k 0 ≡ first
    same = sym (ap (λ (bs : List ℕ). get_or bs 0 0) is ∙ get_or-drop k bytes 0 0 ∙ ap (λ n. get_or bytes n 0) (omega arith))

    fits : get_or bytes k 0 < 256
    fits = omega (arith, same, byte)

    rest_is : drop 1 left ≡ drop (k + 1) bytes
    rest_is = ap (drop 1) is ∙ drop-drop 1 k bytes

    pub left_last_fits : first < 128 → k < 9 → low + first * scale < 2 ^ 64
    left_last_fits last few = subst (λ b. low + b * scale < 2 ^ 64) same (last_fits bytes k low scale front there fits (omega (arith, same)) (λ two ten. omega arith))

    pub left_more_fits : k < 9 → low + (first - 128) * scale < 2 ^ 64
    left_more_fits few = subst (λ b. low + (b - 128) * scale < 2 ^ 64) same (more_fits bytes k low scale front there fits few)

    pub left_scale_fits : k < 9 → scale * 128 < 2 ^ 64
    left_scale_fits few = scale_fits bytes k low scale front there fits few

    pub left_zero : first ≡ 0 → 0 < k → Refused NotFewest bytes
    left_zero none more = front_zero bytes k low scale front there fits (same ∙ none) more

    pub left_ends : first < 128 → (0 < first) ⊎ (k ≡ 0) → Begins bytes (low + first * scale) (drop 1 left)
    left_ends last some = subst (λ b. Begins bytes (low + b * scale) (drop 1 left)) same (subst (Begins bytes (low + get_or bytes k 0 * scale)) (sym rest_is)
        (front_ends bytes k low scale front there fits (omega (arith, same)) (elim some [ inl p ↦ inl (omega (arith, same)) | inr p ↦ inr p ])))

    pub left_more : 128 ≤ first → k < 9 → Front bytes (k + 1) (low + (first - 128) * scale) (scale * 128) × (drop 1 left ≡ drop (k + 1) bytes)
    left_more high few = (
      subst (λ b. Front bytes (k + 1) (low + (b - 128) * scale) (scale * 128)) same (front_more bytes k low scale front there fits (omega (arith, same)) few),
      rest_is,
    )

    -- a tenth byte
    module _ (ten : k ≡ 9) where
      pub left_one_fits : first ≡ 1 → low + scale < 2 ^ 64
      left_one_fits one =
          let h = last_fits bytes k low scale front there fits (omega (arith, same)) (λ two _. omega (arith, same)) in
          omega (arith, subst (λ b. low + b * scale < 2 ^ 64) (same ∙ one) h)

      pub left_one : first ≡ 1 → Begins bytes (low + scale) (drop 1 left)
      left_one one = subst (λ n. Begins bytes n (drop 1 left)) (ap (λ b. low + b * scale) one ∙ omega arith) (left_ends (omega arith) (inl (omega arith)))

      pub left_other : (first ≡ 1 → ⊥) → (Endless left → ⊥) → Refused NotFewest bytes
      left_other other end = elim (cases_lt first 128) [
        | inl small ↦ elim (cases_lt 1 first) [
          | inl large ↦ front_large bytes k low scale front there fits (omega (arith, same)) (omega (arith, same)) ten
          | inr le ↦ left_zero (omega arith) (omega arith)
        ]
        | inr high ↦ front_long bytes k low scale front there fits (omega (arith, same)) ten (λ e. end (subst Endless (sym is) (endless_drop k bytes e)))
      ]
