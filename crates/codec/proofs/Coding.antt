-- The laws of the code of a number.
use Rattle.std.proofs.Common.{◌≡◌, ℕ, zero, suc, ◌+◌, ◌-◌, ◌*◌, ◌/◌, ◌%◌, ◌^◌, ◌<◌, ◌≤◌, cond, ltb, List, [], ◌∷◌, length, sym, refl, ap, ◌∙◌, inl, inr, pow-suc, add-one, arith, le-ltb, lt-ltb}
use Rattle.std.proofs.lemmas.List.{length-append}
use Rattle.std.proofs.lemmas.Bool.{cases_lt, cond-true, cond-false}
use Rattle.codec.specs.Numbers.{codeBy, code, codes, Coded, meant, Shortest, EachCodeIsShortest}

enough : (j k n : ℕ) → n ≤ j → n ≤ k → codeBy j n ≡ codeBy k n
enough zero zero n _ _ = refl
enough zero (suc k) n h _ = sym (cond-true (ltb n 128) _ _ (lt-ltb n 128 (omega arith)))
enough (suc j) zero n _ h = cond-true (ltb n 128) _ _ (lt-ltb n 128 (omega arith))
enough (suc j) (suc k) n h i =
    ap (λ bs. cond (ltb n 128) (n ∷ []) ((n % 128 + 128) ∷ bs)) (enough j k (n / 128) (omega arith) (omega arith))

-- a number below 80 is its own byte
pub code_last : (n : ℕ) → n < 128 → code n ≡ n ∷ []
unfolding code
code_last n h = enough n (suc n) n (omega arith) (omega arith) ∙ cond-true (ltb n 128) _ _ (lt-ltb n 128 h)

-- and any other has its lowest seven bits first
pub code_more : (n : ℕ) → 128 ≤ n → code n ≡ (n % 128 + 128) ∷ code (n / 128)
unfolding code
code_more n h =
    enough n (suc n) n (omega arith) (omega arith)
    ∙ (cond-false (ltb n 128) _ _ (le-ltb n 128 h)
    ∙ ap (λ bs. (n % 128 + 128) ∷ bs) (enough n (n / 128) (n / 128) (omega arith) (omega arith)))

-- one more byte in front, where that byte says that more follow
pub code_on : (b n : ℕ) → 128 ≤ b → b < 256 → 0 < n → code (n * 128 + (b - 128)) ≡ b ∷ code n
code_on b n low high some =
    let first : (n * 128 + (b - 128)) % 128 + 128 ≡ b = omega arith in
    let rest : (n * 128 + (b - 128)) / 128 ≡ n = omega arith in
    code_more (n * 128 + (b - 128)) (omega arith) ∙ (cc)

by_bytes_to : (P : ℕ → Type 0) → ((n : ℕ) → n < 128 → P n) → ((n : ℕ) → 128 ≤ n → P (n / 128) → P n) → (k n : ℕ) → n ≤ k → P n
by_bytes_to P last more zero n h = last n (omega arith)
by_bytes_to P last more (suc k) n h =
    elim (cases_lt n 128) [
      | inl a ↦ last n a
      | inr a ↦ more n a (by_bytes_to P last more k (n / 128) (omega arith))
    ]

-- what holds of a number by its last byte, and then by one more byte at a time, holds of each
pub by_bytes : (P : ℕ → Type 0) → ((n : ℕ) → n < 128 → P n) → ((n : ℕ) → 128 ≤ n → P (n / 128) → P n) → (n : ℕ) → P n
by_bytes P last more n = by_bytes_to P last more n n (omega arith)

pub width_last : (n : ℕ) → n < 128 → length (code n) ≡ 1
width_last n h = rw (code_last n h) refl

pub width_more : (n : ℕ) → 128 ≤ n → length (code n) ≡ length (code (n / 128)) + 1
width_more n h = rw (code_more n h) (omega arith)

pub code_some : (n : ℕ) → 0 < length (code n)
code_some = by_bytes (λ n. 0 < length (code n)) (λ n a. rw (code_last n a) (omega arith)) (λ n a ih. rw (code_more n a) (omega arith))

code_within : (k n : ℕ) → n < 128 ^ (k + 1) → length (code n) ≤ k + 1
code_within zero n h = omega (arith, width_last n h)
code_within (suc k) n h =
    let power : 128 ^ (suc k + 1) ≡ 128 ^ (k + 1) * 128 = ap (λ j. 128 ^ j) (add-one (suc k)) ∙ (pow-suc 128 (suc k) ∙ ap (λ j. 128 ^ j * 128) (sym (add-one k))) in
    elim (cases_lt n 128) [
      | inl l ↦ omega (arith, width_last n l)
      | inr l ↦ omega (arith, width_more n l, code_within k (n / 128) (omega arith))
    ]

-- ten bytes hold each number below 2^64
pub code_few : (n : ℕ) → n < 2 ^ 64 → length (code n) ≤ 10
code_few n h = code_within 9 n (omega arith)

coded_on : (b : ℕ) (bs : List ℕ) → 128 ≤ b → Coded bs → Coded (b ∷ bs)
coded_on b [] h e = absurd e
coded_on b (c ∷ cs) h e = (h, e)

coded_some : (cs : List ℕ) → Coded cs → 1 ≤ length cs
coded_some [] e = absurd e
coded_some (b ∷ bs) e = omega arith

fewer : (n : ℕ) → 128 ≤ n → ((cs : List ℕ) → Coded cs → meant cs ≡ n / 128 → length (code (n / 128)) ≤ length cs) → (cs : List ℕ) → Coded cs → meant cs ≡ n → length (code n) ≤ length cs
fewer n h ih [] e m = absurd e
fewer n h ih (b ∷ []) e m = absurd (omega arith)
fewer n h ih (b ∷ c ∷ cs) e m =
    let more = ih (c ∷ cs) e.1 (omega arith) in
    omega (arith, width_more n h)

pub each_code_is_shortest : EachCodeIsShortest
each_code_is_shortest =
    by_bytes (λ n. Shortest n (code n))
    (λ n a. record { coded = rw (code_last n a) a; means = rw (code_last n a) (omega arith); fewest = λ cs e m. omega (arith, width_last n a, coded_some cs e) })
    (λ n a ih. record {
      coded = rw (code_more n a) (coded_on (n % 128 + 128) (code (n / 128)) (omega arith) ih.coded);
      means = let m = ih.means in rw (code_more n a) (omega arith);
      fewest = fewer n a ih.fewest;
    })

-- each number takes a byte at least
pub length-codes : (ns : List ℕ) → length ns ≤ length (codes ns)
length-codes [] = omega arith
length-codes (n ∷ ns) = simp length-append (omega (arith, code_some n, length-codes ns))
