-- Numbering the classes of a relation by first member: member by member, that it can be done, and that there is one way.
use Rattle.std.proofs.Common.{◌≡◌, ℕ, zero, suc, ◌+◌, ◌<◌, ◌≤◌, ◌↔◌, sym, refl, ◌∙◌, subst, ⊎_elim, arith}
use native.Mathlib.Decide.{ℕ_discrete}
use Rattle.std.proofs.lemmas.Bool.{cases_eq}
use Rattle.kripke.specs.Equivalence.{Equivalence}
use Rattle.kripke.specs.Numbering.{Numbering}
use Rattle.kripke.proofs.Finite.{some_below}
use Rattle.kripke.proofs.Ranking.{ranked_same, ranked_count}

-- one member more, whose number is given by f'
module _ (L : ℕ → ℕ → Type 0) (turn : (i j : ℕ) → L i j → L j i) (join : (i j k : ℕ) → L i j → L j k → L i k)
    (n m : ℕ) (own : L n n) (f f' : ℕ → ℕ) (N : Numbering L n f m) (kept : (i : ℕ) → i < n → f' i ≡ f i) where
  split : (P : ℕ → Type 0) → ((i : ℕ) → i < n → P i) → P n → (i : ℕ) → i < n + 1 → P i
  split P before here i h = ⊎_elim (λ same. subst P (sym same) here) (λ other. before i (omega arith)) (cases_eq i n)

  below-kept : (s : ℕ) → s < n → f' s < m
  below-kept s h = subst (λ x. x < m) (sym (kept s h)) (N.ranked.below s h)

  -- member s has number i, and still has
  still : (i b : ℕ) → b ≤ n → (s : ℕ) × (s < b) × (f s ≡ i) → (s : ℕ) × (s < b) × (f' s ≡ i)
  still i b h s = (s.0, s.1, kept s.0 (omega (arith, s.1)) ∙ s.2)

  wider : (i : ℕ) → (s : ℕ) × (s < n) × (f' s ≡ i) → (s : ℕ) × (s < n + 1) × (f' s ≡ i)
  wider i s = (s.0, omega (arith, s.1), s.2)

  order-kept : (s : ℕ) → s < n → (i : ℕ) → i < f' s → (t : ℕ) × (t < s) × (f' t ≡ i)
  order-kept s h i l = still i s (omega arith) (N.ranked.order s i h (subst (λ x. i < x) (kept s h) l))

  -- the numbers of all are right once that of the last is
  same_more : ((s : ℕ) → s < n → (f' s ≡ f' n) ↔ L s n) → (s t : ℕ) → s < n + 1 → t < n + 1 → (f' s ≡ f' t) ↔ L s t
  same_more last s t h l = split (λ s. (t : ℕ) → t < n + 1 → (f' s ≡ f' t) ↔ L s t) earlier here s h t l
    where
      earlier : (s : ℕ) → s < n → (t : ℕ) → t < n + 1 → (f' s ≡ f' t) ↔ L s t
      earlier s h = split (λ t. (f' s ≡ f' t) ↔ L s t)
          (λ t l. ((λ q. (N.same s t h l).0 (sym (kept s h) ∙ q ∙ kept t l)), (λ q. kept s h ∙ (N.same s t h l).1 q ∙ sym (kept t l))))
          (last s h)

      here : (t : ℕ) → t < n + 1 → (f' n ≡ f' t) ↔ L n t
      here = split (λ t. (f' n ≡ f' t) ↔ L n t)
          (λ t l. ((λ q. turn t n ((last t l).0 (sym q))), (λ q. sym ((last t l).1 (turn n t q)))))
          ((λ _. own), (λ _. refl))

  -- the number of member j, to which it is related
  pub number_old : (j : ℕ) → j < n → L j n → f' n ≡ f j → Numbering L (n + 1) f' m
  number_old j h e is = record {
    ranked = record {
      below = split (λ s. f' s < m) below-kept (subst (λ x. x < m) (sym is) (N.ranked.below j h));
      member = λ i l. wider i (still i n (omega arith) (N.ranked.member i l));
      order = λ s i l b. split (λ s. (i : ℕ) → i < f' s → (t : ℕ) × (t < s) × (f' t ≡ i)) order-kept here s l i b;
    };
    same = same_more (λ s l. (
      (λ q. join s j n ((N.same s j l h).0 (sym (kept s l) ∙ q ∙ is)) e),
      (λ q. kept s l ∙ (N.same s j l h).1 (join s n j q (turn j n e)) ∙ sym is),
    ));
  }
    where
      here : (i : ℕ) → i < f' n → (t : ℕ) × (t < n) × (f' t ≡ i)
      here i b = let t = N.ranked.order j i h (subst (λ x. i < x) is b) in still i n (omega arith) (t.0, omega (arith, t.1), t.2)

  -- a new number, where it is related to none before
  pub number_new : ((j : ℕ) → j < n → L j n → ⊥) → f' n ≡ m → Numbering L (n + 1) f' (m + 1)
  number_new apart is = record {
    ranked = record {
      below = split (λ s. f' s < m + 1) (λ s l. let b = below-kept s l in omega arith) (subst (λ x. x < m + 1) (sym is) (omega arith));
      member = λ i l. ⊎_elim
          (λ same. (n, omega arith, is ∙ sym same))
          (λ other. wider i (still i n (omega arith) (N.ranked.member i (omega arith))))
          (cases_eq i m);
      order = λ s i l b. split (λ s. (i : ℕ) → i < f' s → (t : ℕ) × (t < s) × (f' t ≡ i)) order-kept
          (λ i b. still i n (omega arith) (N.ranked.member i (subst (λ x. i < x) is b))) s l i b;
    };
    same = same_more (λ s l. (
      (λ q. let b = below-kept s l in let o : f' s ≡ m = q ∙ is in absurd (omega arith)),
      (λ q. absurd (apart s l q)),
    ));
  }

pub number-none : (L : ℕ → ℕ → Type 0) (f : ℕ → ℕ) → Numbering L 0 f 0
number-none L f =
    record {
      ranked = record { below = λ s h. absurd (omega arith); member = λ i h. absurd (omega arith); order = λ s i h. absurd (omega arith) };
      same = λ i j h. absurd (omega arith);
    }

-- f with v at n
patch : (ℕ → ℕ) → (n v i : ℕ) → Dec (i ≡ n) → ℕ
patch f n v i (yes e) = v
patch f n v i (no o) = f i

patch_here : (f : ℕ → ℕ) (n v : ℕ) (d : Dec (n ≡ n)) → patch f n v n d ≡ v
unfolding patch
patch_here f n v (yes e) = refl
patch_here f n v (no o) = absurd (o refl)

patch_kept : (f : ℕ → ℕ) (n v i : ℕ) → i < n → (d : Dec (i ≡ n)) → patch f n v i d ≡ f i
unfolding patch
patch_kept f n v i h (yes e) = absurd (omega arith)
patch_kept f n v i h (no o) = refl

-- the classes of an equivalence that can be decided can be numbered
module _ (n : ℕ) (C : ℕ → ℕ → Type 0) (E : Equivalence n C) (d : (s t : ℕ) → Dec (C s t)) where
  abbrev Numbered : ℕ → Type 0
  Numbered k = (f : ℕ → ℕ) × ((m : ℕ) × Numbering C k f m)

  old : (k : ℕ) → k < n → (f : ℕ → ℕ) (m : ℕ) → Numbering C k f m → (j : ℕ) → j < k → C j k → Numbered (suc k)
  old k h f m N j l p =
      let g : ℕ → ℕ = λ i. patch f k (f j) i (ℕ_discrete i k) in
      let M = number_old C E.turn E.join k m (E.own k h) f g N
      (λ i l. patch_kept f k (f j) i l (ℕ_discrete i k)) j l p (patch_here f k (f j) (ℕ_discrete k k)) in
      (g, (m, subst (λ i. Numbering C i g m) (omega arith) M))

  new : (k : ℕ) → k < n → (f : ℕ → ℕ) (m : ℕ) → Numbering C k f m → ((j : ℕ) → j < k → C j k → ⊥) → Numbered (suc k)
  new k h f m N apart =
      let g : ℕ → ℕ = λ i. patch f k m i (ℕ_discrete i k) in
      let M = number_new C E.turn E.join k m (E.own k h) f g N
      (λ i l. patch_kept f k m i l (ℕ_discrete i k)) apart (patch_here f k m (ℕ_discrete k k)) in
      (g, (m + 1, subst (λ i. Numbering C i g (m + 1)) (omega arith) M))

  numbered_below : (k : ℕ) → k ≤ n → Numbered k
  numbered_below zero h = (λ i. i, (0, number-none C (λ i. i)))
  numbered_below (suc k) h =
      let w = numbered_below k (omega arith) in
      elim (some_below k (λ j. C j k) (λ j. d j k)) [
        | yes p ↦ old k h w.0 w.1.0 w.1.1 p.0 p.1 p.2
        | no o ↦ new k h w.0 w.1.0 w.1.1 (λ j l q. o (j, l, q))
      ]

  pub numbered : Numbered n
  numbered = numbered_below n (omega arith)

-- the same numbers, given by another function
pub renumbered : (C : ℕ → ℕ → Type 0) (n k m : ℕ) (f g : ℕ → ℕ) → Numbering C n f k → k ≡ m → ((s : ℕ) → s < n → f s ≡ g s) → Numbering C n g m
renumbered C n k m f g N e same = record {
  ranked = record {
    below = λ s h. subst (λ x. x < m) (same s h) (subst (λ x. f s < x) e (N.ranked.below s h));
    member = λ i h. let s = N.ranked.member i (subst (λ x. i < x) (sym e) h) in (s.0, s.1, sym (same s.0 s.1) ∙ s.2);
    order = λ s i h l.
        let t = N.ranked.order s i h (subst (λ x. i < x) (sym (same s h)) l) in
        (t.0, t.1, sym (same t.0 (omega (arith, t.1))) ∙ t.2);
  };
  same = λ s t h l. (
    (λ q. (N.same s t h l).0 (same s h ∙ q ∙ sym (same t l))),
    (λ q. sym (same s h) ∙ (N.same s t h l).1 q ∙ same t l),
  );
}

-- two numberings of one relation agree
module _ (C : ℕ → ℕ → Type 0) (n m k : ℕ) (f g : ℕ → ℕ) (R : Numbering C n f m) (S : Numbering C n g k) where
  both-part : (s t : ℕ) → s < n → t < n → (f s ≡ f t) ↔ (g s ≡ g t)
  both-part s t h l = ((λ e. (S.same s t h l).1 ((R.same s t h l).0 e)), (λ e. (R.same s t h l).1 ((S.same s t h l).0 e)))

  pub numbering_same : (s : ℕ) → s < n → f s ≡ g s
  numbering_same s h = ranked_same n m k f g R.ranked S.ranked both-part s h

  pub numbering_count : m ≡ k
  numbering_count = ranked_count n m k f g R.ranked S.ranked both-part
