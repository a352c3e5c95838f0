-- The members of a set as a rising list.
use Rattle.std.proofs.Common.{◌≡◌, ℕ, zero, suc, ◌+◌, ◌<◌, ◌≤◌, Bool, true, false, cond, eqb, ◌⊎◌, List, [], ◌∷◌, length, get_or, filter, sym, refl, ap, ◌∙◌, subst, inl, inr, ⊎_elim, zero-add, arith}
use Rattle.std.specs.List.{range_with_len}
use Rattle.std.proofs.lemmas.Bool.{cases_eq, cases_Bool, eqb-true, eq-eqb, ne_eqb, both_ways, cond-true, cond-false}
use Rattle.std.proofs.lemmas.List.FromFn.{length-range_with_len}
use Rattle.std.proofs.ByRecursion.{All-get_or, kept_by_passes}
use Rattle.sets.specs.declared.Set.{Set}
use Rattle.sets.specs.Sets.{bit, In, members, Splits}
use Rattle.sets.proofs.Bits.{On, none_in}

kept_few : (p : ℕ → Bool) (xs : List ℕ) → length (filter p xs) ≤ length xs
kept_few p [] = omega arith
kept_few p (x ∷ xs) = ⊎_elim
    (λ e. let h = ap length (cond-true (p x) (x ∷ filter p xs) (filter p xs) e) in let i = kept_few p xs in omega arith)
    (λ e. let h = ap length (cond-false (p x) (x ∷ filter p xs) (filter p xs) e) in let i = kept_few p xs in omega arith)
    (cases_Bool (p x))

pub members_few : (x : Set) → length (members x) ≤ 128
unfolding members
members_few x = subst (λ n. length (members x) ≤ n) (length-range_with_len 0 128) (kept_few (λ j. eqb (bit x.bits j) 1) (range_with_len 0 128))

-- tests that agree from a up keep the same of it
kept_same : (p q : ℕ → Bool) (n a : ℕ) → ((j : ℕ) → a ≤ j → p j ≡ q j) → filter p (range_with_len a n) ≡ filter q (range_with_len a n)
kept_same p q zero a same = refl
kept_same p q (suc n) a same =
    let rest = kept_same p q n (a + 1) (λ j l. same j (omega arith)) in
    ap (λ b. cond b (a ∷ filter p (range_with_len (a + 1) n)) (filter p (range_with_len (a + 1) n))) (same a (omega arith))
    ∙ ap (λ r. cond (q a) (a ∷ r) r) rest

-- k is the first from a up that passes p, and q passes the others
kept_first : (p q : ℕ → Bool) (k n a : ℕ) → a ≤ k → k < a + n → p k ≡ true → q k ≡ false →
    ((j : ℕ) → j < k → p j ≡ false) → ((j : ℕ) → (j ≡ k → ⊥) → q j ≡ p j) → filter p (range_with_len a n) ≡ k ∷ filter q (range_with_len a n)
kept_first p q k zero a low high here gone before others = absurd (omega arith)
kept_first p q k (suc n) a low high here gone before others = ⊎_elim
    (λ e.
    let pa : p a ≡ true = ap p e ∙ here in
    let qa : q a ≡ false = ap q e ∙ gone in
    cond-true (p a) (a ∷ filter p (range_with_len (a + 1) n)) (filter p (range_with_len (a + 1) n)) pa
    ∙ ap (λ x. x ∷ filter p (range_with_len (a + 1) n)) e
    ∙ ap (λ r. k ∷ r) (kept_same p q n (a + 1) (λ j l. sym (others j (omega arith))))
    ∙ ap (λ r. k ∷ r) (sym (cond-false (q a) (a ∷ filter q (range_with_len (a + 1) n)) (filter q (range_with_len (a + 1) n)) qa)))
    (λ other.
    let pa : p a ≡ false = before a (omega arith) in
    let qa : q a ≡ false = others a other ∙ pa in
    cond-false (p a) (a ∷ filter p (range_with_len (a + 1) n)) (filter p (range_with_len (a + 1) n)) pa
    ∙ kept_first p q k n (a + 1) (omega arith) (omega arith) here gone before others
    ∙ ap (λ r. k ∷ r) (sym (cond-false (q a) (a ∷ filter q (range_with_len (a + 1) n)) (filter q (range_with_len (a + 1) n)) qa)))
    (cases_eq a k)

kept_none : (p : ℕ → Bool) (n a : ℕ) → ((j : ℕ) → p j ≡ false) → filter p (range_with_len a n) ≡ []
kept_none p zero a off = refl
kept_none p (suc n) a off =
    cond-false (p a) (a ∷ filter p (range_with_len (a + 1) n)) (filter p (range_with_len (a + 1) n)) (off a) ∙ kept_none p n (a + 1) off

pub members-none : (x : Set) → x.bits ≡ 0 → members x ≡ []
unfolding members
members-none x e = kept_none (λ j. eqb (bit x.bits j) 1) 128 0
    (λ j. ne_eqb (bit x.bits j) 1 (λ h. none_in j (subst (λ (b : ℕ). On b j) e h)))

pub members_split : (x : Set) (k : ℕ) (rest : Set) → Splits x k rest → members x ≡ k ∷ members rest
unfolding members
members_split x k rest S = kept_first (λ j. eqb (bit x.bits j) 1) (λ j. eqb (bit rest.bits j) 1) k 128 0 (omega arith)
    (let l = S.small in omega arith)
    (eq-eqb (bit x.bits k) 1 S.has)
    (ne_eqb (bit rest.bits k) 1 (λ h. ((S.others k).0 h).1 refl))
    (λ j l. ne_eqb (bit x.bits j) 1 (S.least j l))
    (λ j other. ⊎_elim
    (λ h. eq-eqb (bit rest.bits j) 1 ((S.others j).1 (h, other)) ∙ sym (eq-eqb (bit x.bits j) 1 h))
    (λ h. ne_eqb (bit rest.bits j) 1 (λ r. h ((S.others j).0 r).0) ∙ sym (ne_eqb (bit x.bits j) 1 h))
    (cases_eq (bit x.bits j) 1))

-- the numbers from a up that pass a test, as places of a list
kept_has : (p : ℕ → Bool) (n a j d : ℕ) → a ≤ j → j < a + n → p j ≡ true → (i : ℕ) × (i < length (filter p (range_with_len a n))) × (get_or (filter p (range_with_len a n)) i d ≡ j)
kept_has p zero a j d low high on = absurd (omega arith)
kept_has p (suc n) a j d low high on = go (p a) refl (cases_eq j a) (λ l. kept_has p n (a + 1) j d l (omega arith) on)
  where
    go : (b : Bool) → p a ≡ b → (j ≡ a) ⊎ (j ≡ a → ⊥) →
        (a + 1 ≤ j → (i : ℕ) × (i < length (filter p (range_with_len (a + 1) n))) × (get_or (filter p (range_with_len (a + 1) n)) i d ≡ j)) →
        (i : ℕ) × (i < length (cond b (a ∷ filter p (range_with_len (a + 1) n)) (filter p (range_with_len (a + 1) n)))) ×
        (get_or (cond b (a ∷ filter p (range_with_len (a + 1) n)) (filter p (range_with_len (a + 1) n))) i d ≡ j)
    go true e (inl same) later = (0, omega arith, sym same)
    go true e (inr other) later = let r = later (omega arith) in (suc r.0, omega (arith, r.1), r.2)
    go false e (inl same) later = absurd (both_ways (p a) e (sym (ap p same) ∙ on))
    go false e (inr other) later = later (omega arith)

pub members_has : (x : Set) (j d : ℕ) → j < 128 → In x j → (i : ℕ) × (i < length (members x)) × (get_or (members x) i d ≡ j)
unfolding members
members_has x j d low h = kept_has (λ j. eqb (bit x.bits j) 1) 128 0 j d (omega arith) (omega arith) (eq-eqb (bit x.bits j) 1 h)

pub members_in : (x : Set) (i d : ℕ) → i < length (members x) → In x (get_or (members x) i d)
unfolding members
members_in x i d l = eqb-true (bit x.bits (get_or (members x) i d)) 1
    (All-get_or (λ j. eqb (bit x.bits j) 1 ≡ true) (members x) i d l (kept_by_passes (λ j. eqb (bit x.bits j) 1) (range_with_len 0 128)))

-- what is kept of the numbers from a up is at least a, and rises
kept_low : (p : ℕ → Bool) (n a i d : ℕ) → i < length (filter p (range_with_len a n)) → (a ≤ get_or (filter p (range_with_len a n)) i d) × (get_or (filter p (range_with_len a n)) i d < a + n)
kept_low p zero a i d l = absurd (omega arith)
kept_low p (suc n) a i d l = go (p a) i l (λ i k. kept_low p n (a + 1) i d k)
  where
    go : (b : Bool) (i : ℕ) → i < length (cond b (a ∷ filter p (range_with_len (a + 1) n)) (filter p (range_with_len (a + 1) n))) →
        ((i : ℕ) → i < length (filter p (range_with_len (a + 1) n)) → (a + 1 ≤ get_or (filter p (range_with_len (a + 1) n)) i d) × (get_or (filter p (range_with_len (a + 1) n)) i d < a + 1 + n)) →
        (a ≤ get_or (cond b (a ∷ filter p (range_with_len (a + 1) n)) (filter p (range_with_len (a + 1) n))) i d) ×
        (get_or (cond b (a ∷ filter p (range_with_len (a + 1) n)) (filter p (range_with_len (a + 1) n))) i d < a + suc n)
    go true zero l later = (omega arith, omega arith)
    go true (suc i) l later = let r = later i (omega arith) in (omega (arith, r.0), omega (arith, r.1))
    go false i l later = let r = later i l in (omega (arith, r.0), omega (arith, r.1))

kept_rises : (p : ℕ → Bool) (n a i d : ℕ) → suc i < length (filter p (range_with_len a n)) →
    get_or (filter p (range_with_len a n)) i d < get_or (filter p (range_with_len a n)) (suc i) d
kept_rises p zero a i d l = absurd (omega arith)
kept_rises p (suc n) a i d l = go (p a) i l (λ i k. kept_rises p n (a + 1) i d k) (λ k. (kept_low p n (a + 1) 0 d k).0)
  where
    go : (b : Bool) (i : ℕ) → suc i < length (cond b (a ∷ filter p (range_with_len (a + 1) n)) (filter p (range_with_len (a + 1) n))) →
        ((i : ℕ) → suc i < length (filter p (range_with_len (a + 1) n)) → get_or (filter p (range_with_len (a + 1) n)) i d < get_or (filter p (range_with_len (a + 1) n)) (suc i) d) →
        (0 < length (filter p (range_with_len (a + 1) n)) → a + 1 ≤ get_or (filter p (range_with_len (a + 1) n)) 0 d) →
        get_or (cond b (a ∷ filter p (range_with_len (a + 1) n)) (filter p (range_with_len (a + 1) n))) i d <
        get_or (cond b (a ∷ filter p (range_with_len (a + 1) n)) (filter p (range_with_len (a + 1) n))) (suc i) d
    go true zero l later first = let f = first (omega arith) in omega arith
    go true (suc i) l later first = later i (omega arith)
    go false i l later first = later i l

pub members_small : (x : Set) (i d : ℕ) → i < length (members x) → get_or (members x) i d < 128
unfolding members
members_small x i d l = let r = (kept_low (λ j. eqb (bit x.bits j) 1) 128 0 i d l).1 in subst (λ n. get_or (members x) i d < n) (zero-add 128) r

pub members_rise : (x : Set) (i d : ℕ) → suc i < length (members x) → get_or (members x) i d < get_or (members x) (suc i) d
unfolding members
members_rise x i d l = kept_rises (λ j. eqb (bit x.bits j) 1) 128 0 i d l
