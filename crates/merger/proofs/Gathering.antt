-- What is in the sets of the components that a row marks, gathered along the row; and marks cleared.
use Rattle.std.proofs.Common.{◌≡◌, ℕ, zero, suc, ◌+◌, ◌-◌, ◌*◌, ◌/◌, ◌<◌, ◌≤◌, ◌⊎◌, ◌↔◌, List, [], length, get_or, take, drop, set, sym, refl, ap, ◌∙◌, subst, inl, inr, ⊎_elim, arith}
use Rattle.std.proofs.lemmas.Bool.{cases_eq, cases_lt}
use Rattle.std.proofs.lemmas.List.{get_or-take, get_or-drop, get_or-set_other}
use Rattle.std.specs.Simd.{first_chunks}
use Rattle.sets.specs.declared.Set.{Set}
use Rattle.sets.specs.Sets.{In, none, Splits}
use Rattle.sets.proofs.Bits.{On, none_in}
use Rattle.merger.specs.Grids.{at, set_at}
use Rattle.merger.proofs.Blank.{after_set}

-- what holds of the first eight numbers
pub eight : (P : ℕ → Type 0) → P 0 → P 1 → P 2 → P 3 → P 4 → P 5 → P 6 → P 7 → (j : ℕ) → j < 8 → P j
eight P p0 p1 p2 p3 p4 p5 p6 p7 j low =
    at-or 0 p0 (λ n0. at-or 1 p1 (λ n1. at-or 2 p2 (λ n2. at-or 3 p3 (λ n3.
    at-or 4 p4 (λ n4. at-or 5 p5 (λ n5. at-or 6 p6 (λ n6. at-or 7 p7 (λ n7. absurd (omega arith)))))))))
  where
    at-or : (i : ℕ) → P i → ((j ≡ i → ⊥) → P j) → P j
    at-or i p else' = ⊎_elim (λ e. subst P (sym e) p) else' (cases_eq j i)

-- place i of chunk b
in-chunk : (n k : ℕ) (row : List ℕ) (b i : ℕ) → b < k → i < n → at (get_or (first_chunks n k row) b []) i ≡ at row (b * n + i)
in-chunk n zero row b i h l = absurd (omega arith)
in-chunk n (suc k) row zero i h l = get_or-take n row i 0 l ∙ ap (at row) (omega arith)
in-chunk n (suc k) row (suc b) i h l = in-chunk n k (drop n row) b i (omega arith) l ∙ get_or-drop n row (b * n + i) 0 ∙ ap (at row) (omega arith)

pub in_chunks : (n k m : ℕ) (row : List ℕ) (b i : ℕ) → b < m → b < k → i < n → at (get_or (take m (first_chunks n k row)) b []) i ≡ at row (b * n + i)
in_chunks n k m row b i h l low = ap (λ x. at x i) (get_or-take m (first_chunks n k row) b [] h) ∙ in-chunk n k row b i l low

-- all has what is in the sets of the marked components below n
abbrev pub Gathered : Set → List ℕ → List Set → ℕ → Type 0
Gathered all row sets n = (c : ℕ) → In all c ↔ ((l : ℕ) × (l < n) × (at row l ≡ 1) × In (set_at sets l) c)

module _ (row : List ℕ) (sets : List Set) where
  -- after has what is in before, and in the sets of the components that are marked, of the eight from one place on
  abbrev pub Added : Set → Set → ℕ → Type 0
  Added before after from =
      (c : ℕ) → In after c ↔ (In before c ⊎ ((l : ℕ) × (from ≤ l) × (l < from + 8) × (at row l ≡ 1) × In (set_at sets l) c))

  pub gathered_none : Gathered none row sets 0
  gathered_none c = ((λ h. absurd (none_in c h)), (λ p. absurd (omega (arith, p.1))))

  pub gathered_more : (all all' : Set) (n : ℕ) → Gathered all row sets n → Added all all' n → Gathered all' row sets (n + 8)
  gathered_more all all' n G A c = (
    (λ h. ⊎_elim
        (λ was. let p = (G c).0 was in (p.0, omega (arith, p.1), p.2, p.3))
        (λ p. (p.0, p.2, p.3, p.4))
        ((A c).0 h)),
    (λ p. (A c).1 (⊎_elim
        (λ low. inl ((G c).1 (p.0, low, p.2, p.3)))
        (λ past. inr (p.0, past, p.1, p.2, p.3))
        (cases_lt p.0 n))),
  )

  -- the sets of the eight whose bit is no more in left are added
  pub record Adding (before after : Set) (from left : ℕ) : Type 0 where
    pub grows : (c : ℕ) → In before c → In after c
    pub sound : (c : ℕ) → In after c → In before c ⊎ ((l : ℕ) × (from ≤ l) × (l < from + 8) × (at row l ≡ 1) × In (set_at sets l) c)
    pub whole : (i : ℕ) → i < 8 → at row (from + i) ≡ 1 → On left (8 * i) ⊎ ((c : ℕ) → In (set_at sets (from + i)) c → In after c)

  pub adding_none : (before : Set) (from word : ℕ) → ((i : ℕ) → i < 8 → at row (from + i) ≡ 1 → On word (8 * i)) → Adding before before from word
  adding_none before from word marks = record { grows = λ c h. h; sound = λ c h. inl h; whole = λ i h e. inl (marks i h e) }

  pub adding_all : (before after : Set) (from : ℕ) → Adding before after from 0 → Added before after from
  adding_all before after from A c = (
    A.sound c,
    λ h. ⊎_elim
        (A.grows c)
        (λ p.
        let e : from + (p.0 - from) ≡ p.0 = omega (arith, p.1) in
        ⊎_elim
        (λ on. absurd (none_in (8 * (p.0 - from)) on))
        (λ within. within c (subst (λ l. In (set_at sets l) c) (sym e) p.4))
        (A.whole (p.0 - from) (omega (arith, p.1, p.2)) (subst (λ l. at row l ≡ 1) (sym e) p.3)))
        h,
  )

  -- bit p, of the component at place l, goes
  module _ (before after : Set) (from left left' p l : ℕ) (A : Adding before after from left) (small : p < 64) (is : l ≡ from + p / 8)
      (others : (j : ℕ) → On left j → (j ≡ p → ⊥) → On left' j) where
    pub adding_off : (at row l ≡ 1 → ⊥) → Adding before after from left'
    adding_off off = record {
      grows = A.grows;
      sound = A.sound;
      whole = λ i h e. ⊎_elim
          (λ on. ⊎_elim
          (λ same. let here : from + i ≡ l = omega arith in absurd (off (subst (λ j. at row j ≡ 1) here e)))
          (λ other. inl (others (8 * i) on other))
          (cases_eq (8 * i) p))
          inr
          (A.whole i h e);
    }

    pub adding_on : (more : Set) → at row l ≡ 1 → ((c : ℕ) → In more c ↔ (In after c ⊎ In (set_at sets l) c)) → Adding before more from left'
    adding_on more on joined = record {
      grows = λ c h. (joined c).1 (inl (A.grows c h));
      sound = λ c h. ⊎_elim (A.sound c) (λ new. inr (l, omega arith, omega arith, on, new)) ((joined c).0 h);
      whole = λ i h e. ⊎_elim
          (λ on. ⊎_elim
          (λ same. let here : from + i ≡ l = omega arith in inr (λ c q. (joined c).1 (inr (subst (λ j. In (set_at sets j) c) here q))))
          (λ other. inl (others (8 * i) on other))
          (cases_eq (8 * i) p))
          (λ within. inr (λ c q. (joined c).1 (inl (within c q))))
          (A.whole i h e);
    }

-- the marks below n that Stays lets be are left, and those from n up are as they were
pub record Sifted (row row' : List ℕ) (Stays : ℕ → Type 0) (n : ℕ) : Type 0 where
  pub done : (j : ℕ) → j < n → (at row' j ≡ 1) ↔ ((at row j ≡ 1) × Stays j)
  pub rest : (j : ℕ) → n ≤ j → at row' j ≡ at row j

pub sifted_more : (row row' : List ℕ) (Stays : ℕ → Type 0) (n x : ℕ) → n < length row' → Sifted row row' Stays n →
    ((x ≡ 1) ↔ ((at row' n ≡ 1) × Stays n)) → Sifted row (set row' n x) Stays (n + 1)
sifted_more row row' Stays n x room S kept = record {
  done = λ j h. after_set 0 row' n x room (λ j y. j < n + 1 → (y ≡ 1) ↔ ((at row j ≡ 1) × Stays j))
      (λ _. subst (λ y. (x ≡ 1) ↔ ((y ≡ 1) × Stays n)) (S.rest n (omega arith)) kept)
      (λ j other h. S.done j (omega arith))
      j h;
  rest = λ j h. get_or-set_other row' n j x 0 (omega arith) ∙ S.rest j (omega arith);
}

-- the rows of places that are no more in left have the marks below n that Stays lets be, and the others are as they were
pub record Cut (rows rows' : List (List ℕ)) (Stays : ℕ → ℕ → Type 0) (n : ℕ) (places left : Set) : Type 0 where
  pub inside : (k : ℕ) → In left k → In places k
  pub done : (k l : ℕ) → In places k → (In left k → ⊥) → l < n → (at (get_or rows' k []) l ≡ 1) ↔ ((at (get_or rows k []) l ≡ 1) × Stays k l)
  pub rest : (k : ℕ) → (In places k → In left k) → get_or rows' k [] ≡ get_or rows k []

module _ (rows : List (List ℕ)) (Stays : ℕ → ℕ → Type 0) (n : ℕ) (places : Set) where
  pub cut_none : Cut rows rows Stays n places places
  cut_none = record { inside = λ k h. h; done = λ k l h out. absurd (out h); rest = λ k h. refl }

  pub cut_more : (rows' : List (List ℕ)) (left : Set) (k : ℕ) (left' : Set) (row : List ℕ) → k < length rows' → Cut rows rows' Stays n places left → Splits left k left' →
      ((l : ℕ) → l < n → (at row l ≡ 1) ↔ ((at (get_or rows' k []) l ≡ 1) × Stays k l)) → Cut rows (set rows' k row) Stays n places left'
  cut_more rows' left k left' row room C S kept = record {
    inside = λ j h. C.inside j ((S.others j).0 h).0;
    done = λ j l. after_set [] rows' k row room
        (λ j r. In places j → (In left' j → ⊥) → l < n → (at r l ≡ 1) ↔ ((at (get_or rows j []) l ≡ 1) × Stays j l))
        (λ _ _ low. subst (λ r. (at row l ≡ 1) ↔ ((at r l ≡ 1) × Stays k l)) (C.rest k (λ _. S.has)) (kept l low))
        (λ j other h out low. C.done j l h (λ i. out ((S.others j).1 (i, other))) low)
        j;
    rest = λ j h.
        let other : j ≡ k → ⊥ = λ e. ((S.others j).0 (h (subst (λ i. In places i) (sym e) (C.inside k S.has)))).1 e in
        get_or-set_other rows' k j row [] other ∙ C.rest j (λ p. ((S.others j).0 (h p)).0);
  }
