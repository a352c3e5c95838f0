-- Items that are put into classes: each first item that has no class yet, with all that are like it.
use Rattle.std.proofs.Common.{◌≡◌, ℕ, ◌+◌, ◌<◌, ◌≤◌, ◌⊎◌, ◌↔◌, List, length, take, set, max, Option, Some, None, ap, sym, refl, ◌∙◌, subst, inl, inr, ⊎_elim, arith}
use Rattle.std.specs.Prelude.{MatchOption}
use Rattle.std.specs.List.{AllWithin, HoldsAt}
use Rattle.std.proofs.lemmas.Bool.{cases_eq}
use Rattle.std.proofs.lemmas.List.{length-take, get_or-take, get_or-set_same, get_or-set_other}
use Rattle.sets.specs.declared.Set.{Set}
use Rattle.sets.specs.Sets.{In, none, Splits}
use Rattle.sets.proofs.Bits.{in_dec, none_in}
use Rattle.kripke.specs.Numbering.{Numbering}
use Rattle.kripke.proofs.Numbering.{number_old, number_new}
use Rattle.merger.specs.declared.partition.Partition.{Partition}
use Rattle.merger.specs.Grids.{at, set_at, Groups, Same, Like}
use Rattle.merger.proofs.Blank.{after_set}

pub same_own : (x : Set) → Same x x
same_own x c = ((λ h. h), (λ h. h))

-- items that are like one another are so both ways, and so is what is like the same item
module _ (rows : List Set) (class : List ℕ) where
  pub like_own : (i : ℕ) → Like rows class i i
  like_own i = (refl, same_own (set_at rows i))

  pub like_turn : (i j : ℕ) → Like rows class i j → Like rows class j i
  like_turn i j p = (sym p.0, λ c. ((p.1 c).1, (p.1 c).0))

  pub like_join : (i j k : ℕ) → Like rows class i j → Like rows class j k → Like rows class i k
  like_join i j k p q = (p.0 ∙ q.0, λ c. ((λ h. (q.1 c).0 ((p.1 c).0 h)), (λ h. (p.1 c).1 ((q.1 c).1 h))))

-- two sets that are not other than each other are the same
pub same_stable : (x y : Set) → ((Same x y → ⊥) → ⊥) → Same x y
same_stable x y not_other c = (
  (λ h. ⊎_elim (λ i. i) (λ out. absurd (not_other (λ s. out ((s c).0 h)))) (in_dec y.bits c)),
  (λ h. ⊎_elim (λ i. i) (λ out. absurd (not_other (λ s. out ((s c).1 h)))) (in_dec x.bits c)),
)

-- what `position` gives, told of the entries below k
pub first_below : (words : List ℕ) (k : ℕ) → k ≤ length words → (r : Option ℕ) (Yes No : ℕ → Type 0) →
    MatchOption r (AllWithin No (take k words) 0 (length (take k words)))
    (λ i. (i < length (take k words)) × HoldsAt Yes (take k words) i × AllWithin No (take k words) 0 i) →
    MatchOption r ((j : ℕ) → j < k → No (at words j)) (λ j. (j < k) × Yes (at words j))
first_below words k room None Yes No all = λ j h. subst No (get_or-take k words j 0 h) (all j 0 (omega arith) (omega (arith, length-take k words)))
first_below words k room (Some i) Yes No p =
    let l : i < k = omega (arith, p.0, length-take k words) in
    (l, subst Yes (get_or-take k words i 0 l) (p.1 0))

-- P' is P with one item more in class into, and the items of a class are those of some words
module _ (words : List ℕ) (P P' : Partition) (k into : ℕ) (items : P.len ≡ k) where
  abbrev Equal : ℕ → ℕ → Type 0
  Equal i j = at words i ≡ at words j

  module _ (N : Numbering Equal k (at P.class) P.classes) (classes : P'.classes ≡ max P.classes (into + 1))
      (last : at P'.class P.len ≡ into) (others : (i : ℕ) → i < P.len → at P'.class i ≡ at P.class i) where
    kept : (i : ℕ) → i < k → at P'.class i ≡ at P.class i
    kept i h = others i (omega arith)

    here : at P'.class k ≡ into
    here = ap (at P'.class) (sym items) ∙ last

    pub words_old : (j : ℕ) → j < k → Equal j k → into ≡ at P.class j → Numbering Equal (k + 1) (at P'.class) P'.classes
    words_old j l same is =
        let b = N.ranked.below j l in
        let still : P'.classes ≡ P.classes = omega arith in
        subst (λ m. Numbering Equal (k + 1) (at P'.class) m) (sym still)
        (number_old Equal (λ a b e. sym e) (λ a b d e f. e ∙ f) k P.classes refl (at P.class) (at P'.class) N kept j l same (here ∙ is))

    pub words_new : ((j : ℕ) → j < k → Equal j k → ⊥) → into ≡ P.classes → Numbering Equal (k + 1) (at P'.class) P'.classes
    words_new apart is =
        let more : P'.classes ≡ P.classes + 1 = omega arith in
        subst (λ m. Numbering Equal (k + 1) (at P'.class) m) (sym more)
        (number_new Equal (λ a b e. sym e) (λ a b d e f. e ∙ f) k P.classes refl (at P.class) (at P'.class) N kept apart (here ∙ is))

-- of group, those that have row and are no more in left have class c, and others has the others
pub record Sorted (rows : List Set) (row group : Set) (c : ℕ) (class class' : List ℕ) (others left : Set) : Type 0 where
  pub inside : (j : ℕ) → In left j → In group j
  pub fails : (j : ℕ) → In others j ↔ (In group j × (In left j → ⊥) × (Same (set_at rows j) row → ⊥))
  pub placed : (j : ℕ) → In group j → (In left j → ⊥) → Same (set_at rows j) row → at class' j ≡ c
  pub kept : (j : ℕ) → (In group j → (In left j → ⊥) → Same (set_at rows j) row → ⊥) → at class' j ≡ at class j

pub sorted_none : (rows : List Set) (row group : Set) (c : ℕ) (class : List ℕ) → Sorted rows row group c class class none group
sorted_none rows row group c class = record {
  inside = λ j h. h;
  fails = λ j. ((λ h. absurd (none_in j h)), (λ p. absurd (p.1 p.0)));
  placed = λ j g out s. absurd (out g);
  kept = λ j h. refl;
}

module _ (rows : List Set) (row group : Set) (c : ℕ) (class class' : List ℕ) (others left : Set) (k : ℕ) (left' : Set)
    (A : Sorted rows row group c class class' others left) (S : Splits left k left') where
  -- what was in left and is not k still is
  stays : (j : ℕ) → (j ≡ k → ⊥) → (In left' j → ⊥) → In left j → ⊥
  stays j other out h = out ((S.others j).1 (h, other))

  out-of : (j : ℕ) → (In left j → ⊥) → In left' j → ⊥
  out-of j out h = out ((S.others j).0 h).0

  k-out : In left' k → ⊥
  k-out h = ((S.others k).0 h).1 refl

  pub sorted_on : k < length class' → Same (set_at rows k) row → Sorted rows row group c class (set class' k c) others left'
  sorted_on room same = record {
    inside = λ j h. A.inside j ((S.others j).0 h).0;
    fails = λ j. (
      (λ h. let p = (A.fails j).0 h in (p.0, out-of j p.1, p.2)),
      (λ p. (A.fails j).1 (
        p.0,
        ⊎_elim
            (λ e. absurd (p.2 (subst (λ i. Same (set_at rows i) row) (sym e) same)))
            (λ other. stays j other p.1)
            (cases_eq j k),
        p.2,
      )),
    );
    placed = λ j. after_set 0 class' k c room (λ j v. In group j → (In left' j → ⊥) → Same (set_at rows j) row → v ≡ c)
        (λ _ _ _. refl)
        (λ j other g out s. A.placed j g (stays j other out) s)
        j;
    kept = λ j. after_set 0 class' k c room (λ j v. (In group j → (In left' j → ⊥) → Same (set_at rows j) row → ⊥) → v ≡ at class j)
        (λ h. absurd (h (A.inside k S.has) k-out same))
        (λ j other h. A.kept j (λ g out s. h g (out-of j out) s))
        j;
  }

  pub sorted_off : (others' gone : Set) → (Same (set_at rows k) row → ⊥) → ((j : ℕ) → In gone j ↔ (In left j × (In left' j → ⊥))) →
      ((j : ℕ) → In others' j ↔ (In others j ⊎ In gone j)) → Sorted rows row group c class class' others' left'
  sorted_off others' gone other_row goes joined = record {
    inside = λ j h. A.inside j ((S.others j).0 h).0;
    fails = λ j. (
      (λ h. ⊎_elim
          (λ was. let p = (A.fails j).0 was in (p.0, out-of j p.1, p.2))
          (λ new.
          let g = (goes j).0 new in
          let e : j ≡ k = ⊎_elim (λ e. e) (λ other. absurd (g.1 ((S.others j).1 (g.0, other)))) (cases_eq j k) in
          (A.inside j g.0, g.1, λ s. other_row (subst (λ i. Same (set_at rows i) row) e s)))
          ((joined j).0 h)),
      (λ p. (joined j).1 (⊎_elim
          (λ e. inr ((goes j).1 (subst (λ i. In left i) (sym e) S.has, p.1)))
          (λ other. inl ((A.fails j).1 (p.0, stays j other p.1, p.2)))
          (cases_eq j k))),
    );
    placed = λ j g out s. ⊎_elim
        (λ e. absurd (other_row (subst (λ i. Same (set_at rows i) row) e s)))
        (λ other. A.placed j g (stays j other out) s)
        (cases_eq j k);
    kept = λ j h. A.kept j (λ g out s. h g (out-of j out) s);
  }

-- classes 0 to m - 1 have their items, and all items before k have a class: the class of an item without one is 128
pub record Parted (rows : List Set) (old : List ℕ) (n : ℕ) (class : List ℕ) (members left : List Set) (m k : ℕ) : Type 0 where
  pub most : m ≤ k
  pub past : (j : ℕ) → j < k → j < n → at class j < m
  pub each : (j : ℕ) → j < n → (at class j ≡ 128) ⊎ (at class j < m)
  pub rest : (c j : ℕ) → In (set_at left c) j ↔ ((j < n) × (at old j ≡ c) × (at class j ≡ 128))
  pub groups : (c j : ℕ) → In (set_at members c) j ↔ ((j < n) × (at class j ≡ c) × (c < m))
  pub same : (i j : ℕ) → i < n → j < n → at class i < m → at class j < m → (at class i ≡ at class j) ↔ Like rows old i j
  pub apart : (i j : ℕ) → i < n → j < n → at class i < m → at class j ≡ 128 → Like rows old i j → ⊥
  pub member : (c : ℕ) → c < m → (s : ℕ) × (s < k) × (s < n) × (at class s ≡ c)
  pub order : (s i : ℕ) → s < n → at class s < m → i < at class s → (t : ℕ) × (t < s) × (at class t ≡ i)

module _ (rows : List Set) (old : List ℕ) (n : ℕ) (few : n ≤ 128) where
  pub parted_none : (class : List ℕ) (members left : List Set) → ((j : ℕ) → j < n → at class j ≡ 128) → ((c : ℕ) → set_at members c ≡ none) →
      Groups left old n → Parted rows old n class members left 0 0
  parted_none class members left free empty G = record {
    most = omega arith;
    past = λ j h. absurd (omega arith);
    each = λ j h. inl (free j h);
    rest = λ c j. ((λ h. let p = (G.each c j).0 h in (p.0, p.1, free j p.0)), (λ p. (G.each c j).1 (p.0, p.1)));
    groups = λ c j. ((λ h. absurd (none_in j (subst (λ (x : Set). In x j) (empty c) h))), (λ p. absurd (omega (arith, p.2))));
    same = λ i j h l b. absurd (omega arith);
    apart = λ i j h l b. absurd (omega arith);
    member = λ c h. absurd (omega arith);
    order = λ s i h b. absurd (omega arith);
  }

  -- item k has its class already
  pub parted_past : (class : List ℕ) (members left : List Set) (m k : ℕ) → Parted rows old n class members left m k → k < n → (at class k ≡ 128 → ⊥) →
      Parted rows old n class members left m (k + 1)
  parted_past class members left m k A low had = record {
    most = let a = A.most in omega arith;
    past = λ j h b. ⊎_elim
        (λ e. subst (λ i. at class i < m) (sym e) (⊎_elim (λ free. absurd (had free)) (λ l. l) (A.each k low)))
        (λ other. A.past j (omega arith) b)
        (cases_eq j k);
    each = A.each;
    rest = A.rest;
    groups = A.groups;
    same = A.same;
    apart = A.apart;
    member = λ c h. let s = A.member c h in (s.0, omega (arith, s.1), s.2, s.3);
    order = A.order;
  }

  -- item k has none, and opens class m with all that are like it
  module _ (class class' : List ℕ) (members members' left left' : List Set) (m k own : ℕ) (A : Parted rows old n class members left m k)
      (low : k < n) (is : own ≡ at old k) (free : at class k ≡ 128)
      (placed : (j : ℕ) → In (set_at left own) j → Same (set_at rows j) (set_at rows k) → at class' j ≡ m)
      (kept : (j : ℕ) → (In (set_at left own) j → Same (set_at rows j) (set_at rows k) → ⊥) → at class' j ≡ at class j)
      (group' : (j : ℕ) → In (set_at members' m) j ↔ (In (set_at left own) j × Same (set_at rows j) (set_at rows k)))
      (groups' : (c : ℕ) → (c ≡ m → ⊥) → set_at members' c ≡ set_at members c)
      (rest' : (j : ℕ) → In (set_at left' own) j ↔ (In (set_at left own) j × (Same (set_at rows j) (set_at rows k) → ⊥)))
      (rests' : (c : ℕ) → (c ≡ own → ⊥) → set_at left' c ≡ set_at left c) where
    abbrev New : ℕ → Type 0
    New j = In (set_at left own) j × Same (set_at rows j) (set_at rows k)

    small : m < 128
    small = let a = A.most in omega arith

    which : (j : ℕ) → ((at class' j ≡ m) × New j) ⊎ ((at class' j ≡ at class j) × (New j → ⊥))
    which j = ⊎_elim
        (λ h. let p = (group' j).0 h in inl (placed j p.0 p.1, p))
        (λ out. inr (kept j (λ a b. out ((group' j).1 (a, b))), λ p. out ((group' j).1 p)))
        (in_dec (set_at members' m).bits j)

    was : (j : ℕ) → New j → (j < n) × (at old j ≡ own) × (at class j ≡ 128)
    was j p = (A.rest own j).0 p.0

    first : New k
    first = ((A.rest own k).1 (low, sym is, free), same_own (set_at rows k))

    -- one that had a class has it still
    aged : (j : ℕ) → at class j < m → at class' j ≡ at class j
    aged j l = ⊎_elim (λ p. let w = (was j p.1).2 in let s = small in absurd (omega arith)) (λ p. p.0) (which j)

    -- one that has a class is new in class m, or had it
    now' : (j : ℕ) → j < n → at class' j < m + 1 → ((at class' j ≡ m) × New j) ⊎ ((at class' j ≡ at class j) × (at class j < m))
    now' j h l = ⊎_elim
        inl
        (λ p. inr (p.0, ⊎_elim (λ e. let q = p.0 in let s = small in absurd (omega arith)) (λ b. b) (A.each j h)))
        (which j)

    still : (j : ℕ) → at class' j ≡ 128 → (at class j ≡ 128) × (New j → ⊥)
    still j e = ⊎_elim (λ p. let q = p.0 in let s = small in absurd (omega arith)) (λ p. (sym p.0 ∙ e, p.1)) (which j)

    pub parted_open : Parted rows old n class' members' left' (m + 1) (k + 1)
    parted_open = record {
      most = let a = A.most in omega arith;
      past = λ j h b. ⊎_elim
          (λ p. let q = p.0 in omega arith)
          (λ p. ⊎_elim
          (λ e. absurd (p.1 (subst New (sym e) first)))
          (λ other. let q = p.0 in let r = A.past j (omega arith) b in omega arith)
          (cases_eq j k))
          (which j);
      each = λ j b. ⊎_elim
          (λ p. let q = p.0 in inr (omega arith))
          (λ p. let q = p.0 in ⊎_elim (λ e. inl (q ∙ e)) (λ l. inr (omega arith)) (A.each j b))
          (which j);
      rest = λ c j. ⊎_elim
          (λ e. subst (λ d. In (set_at left' d) j ↔ ((j < n) × (at old j ≡ d) × (at class' j ≡ 128))) (sym e) (
            (λ h. let p = (rest' j).0 h in let w = (A.rest own j).0 p.0 in (w.0, w.1, kept j (λ _ s. p.1 s) ∙ w.2)),
            (λ p. let o = still j p.2 in let g = (A.rest own j).1 (p.0, p.1, o.0) in (rest' j).1 (g, λ s. o.1 (g, s))),
          ))
          (λ other. subst (λ (x : Set). In x j ↔ ((j < n) × (at old j ≡ c) × (at class' j ≡ 128))) (sym (rests' c other)) (
            (λ h. let w = (A.rest c j).0 h in (w.0, w.1, kept j (λ g s. other (sym w.1 ∙ ((A.rest own j).0 g).1)) ∙ w.2)),
            (λ p. (A.rest c j).1 (p.0, p.1, (still j p.2).0)),
          ))
          (cases_eq c own);
      groups = λ c j. ⊎_elim
          (λ e. subst (λ d. In (set_at members' d) j ↔ ((j < n) × (at class' j ≡ d) × (d < m + 1))) (sym e) (
            (λ h. let p = (group' j).0 h in ((was j p).0, placed j p.0 p.1, omega arith)),
            (λ p. ⊎_elim
                (λ q. (group' j).1 q.1)
                (λ q. let a = q.0 in let b = q.1 in let o = p.1 in absurd (omega arith))
                (now' j p.0 (let o = p.1 in omega arith))),
          ))
          (λ other. subst (λ (x : Set). In x j ↔ ((j < n) × (at class' j ≡ c) × (c < m + 1))) (sym (groups' c other)) (
            (λ h.
                let w = (A.groups c j).0 h in
                let a = w.1 in
                let b = w.2 in
                (w.0, aged j (omega arith) ∙ a, omega arith)),
            (λ p. ⊎_elim
                (λ q. absurd (other (sym p.1 ∙ q.0)))
                (λ q. let a = q.0 in let b = q.1 in let d = p.1 in (A.groups c j).1 (p.0, sym a ∙ d, omega arith))
                (now' j p.0 (let a = p.1 in let b = p.2 in omega arith))),
          ))
          (cases_eq c m);
      same = λ i j b d h l. ⊎_elim
          (λ p. ⊎_elim
          (λ q. (
            (λ _. ((was i p.1).1 ∙ sym (was j q.1).1, λ c. ((λ x. (q.1.1 c).1 ((p.1.1 c).0 x)), (λ x. (p.1.1 c).1 ((q.1.1 c).0 x))))),
            (λ _. p.0 ∙ sym q.0),
          ))
          (λ q. (
            (λ e. let a = p.0 in let f = q.0 in let g = q.1 in absurd (omega arith)),
            (λ s. absurd (A.apart j i d b q.1 (was i p.1).2 (sym s.0, λ c. ((s.1 c).1, (s.1 c).0)))),
          ))
          (now' j d l))
          (λ p. ⊎_elim
          (λ q. (
            (λ e. let a = p.0 in let f = q.0 in let g = p.1 in absurd (omega arith)),
            (λ s. absurd (A.apart i j b d p.1 (was j q.1).2 s)),
          ))
          (λ q. let s = A.same i j b d p.1 q.1 in ((λ e. s.0 (sym p.0 ∙ e ∙ q.0)), (λ e. p.0 ∙ s.1 e ∙ sym q.0)))
          (now' j d l))
          (now' i b h);
      apart = λ i j b d h e s.
          let o = still j e in ⊎_elim
          (λ p. o.1 ((A.rest own j).1 (d, sym s.0 ∙ (was i p.1).1, o.0), λ c. ((λ x. (p.1.1 c).0 ((s.1 c).1 x)), (λ x. (s.1 c).0 ((p.1.1 c).1 x)))))
          (λ p. A.apart i j b d p.1 o.0 s)
          (now' i b h);
      member = λ c h. ⊎_elim
          (λ e. (k, omega arith, low, placed k first.0 first.1 ∙ sym e))
          (λ other. let s = A.member c (omega arith) in let a = s.3 in (s.0, omega (arith, s.1), s.2, aged s.0 (omega arith) ∙ a))
          (cases_eq c m);
      order = λ s i b h l. ⊎_elim
          (λ p.
          let q = p.0 in
          let t = A.member i (omega arith) in
          let a = t.3 in
          let late : s < k → ⊥ = λ o. let r = A.past s o b in let w = (was s p.1).2 in let z = small in omega arith in
          (t.0, omega (arith, t.1), aged t.0 (omega arith) ∙ a))
          (λ p. let q = p.0 in let f = p.1 in let t = A.order s i b f (omega arith) in let a = t.2 in (t.0, t.1, aged t.0 (omega arith) ∙ a))
          (now' s b h);
    }

  -- the same, where x is the new class, and y is what is left of the old one
  pub parted_put : (class class' : List ℕ) (members left : List Set) (m k own : ℕ) (x y : Set) → Parted rows old n class members left m k →
      k < n → own ≡ at old k → own < length left → m < length members → at class k ≡ 128 →
      ((j : ℕ) → In (set_at left own) j → Same (set_at rows j) (set_at rows k) → at class' j ≡ m) →
      ((j : ℕ) → (In (set_at left own) j → Same (set_at rows j) (set_at rows k) → ⊥) → at class' j ≡ at class j) →
      ((j : ℕ) → In x j ↔ (In (set_at left own) j × Same (set_at rows j) (set_at rows k))) →
      ((j : ℕ) → In y j ↔ (In (set_at left own) j × (Same (set_at rows j) (set_at rows k) → ⊥))) →
      Parted rows old n class' (set members m x) (set left own y) (m + 1) (k + 1)
  parted_put class class' members left m k own x y A low is wide tall free placed kept group rest =
      parted_open class class' members (set members m x) left (set left own y) m k own A low is free placed kept
      (λ j. subst (λ (z : Set). In z j ↔ (In (set_at left own) j × Same (set_at rows j) (set_at rows k))) (sym (get_or-set_same members m x none tall)) (group j))
      (λ c other. get_or-set_other members m c x none other)
      (λ j. subst (λ (z : Set). In z j ↔ (In (set_at left own) j × (Same (set_at rows j) (set_at rows k) → ⊥))) (sym (get_or-set_same left own y none wide)) (rest j))
      (λ c other. get_or-set_other left own c y none other)

  pub parted_is : (class class' : List ℕ) (members members' left left' : List Set) (m m' k : ℕ) → class' ≡ class → members' ≡ members → left' ≡ left → m' ≡ m →
      Parted rows old n class members left m k → Parted rows old n class' members' left' m' k
  parted_is class class' members members' left left' m m' k c g l e A =
      subst (λ x. Parted rows old n x members' left' m' k) (sym c)
      (subst (λ x. Parted rows old n class x left' m' k) (sym g)
      (subst (λ x. Parted rows old n class members x m' k) (sym l)
      (subst (λ x. Parted rows old n class members left x k) (sym e) A)))

  -- all items have their class
  module _ (class : List ℕ) (members left : List Set) (m : ℕ) (A : Parted rows old n class members left m n) where
    pub parted_numbers : Numbering (Like rows old) n (at class) m
    parted_numbers = record {
      ranked = record {
        below = λ s h. A.past s h h;
        member = λ i h. let s = A.member i h in (s.0, s.2, s.3);
        order = λ s i h l. A.order s i h (A.past s h h) l;
      };
      same = λ s t h l. A.same s t h l (A.past s h h) (A.past t l l);
    }

    pub parted_groups : Groups members class n
    parted_groups = record {
      low = λ k h. let l = A.past k h h in let a = A.most in omega arith;
      each = λ c j. (
        (λ h. let p = (A.groups c j).0 h in (p.0, p.1)),
        (λ p. (A.groups c j).1 (p.0, p.1, subst (λ x. x < m) p.1 (A.past j p.0 p.0))),
      );
    }

    pub parted_spent : (c j : ℕ) → In (set_at left c) j → ⊥
    parted_spent c j h = let p = (A.rest c j).0 h in let l = A.past j p.0 p.0 in let a = A.most in let e = p.2 in omega arith
