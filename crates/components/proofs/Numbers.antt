-- Numbers by first member, given to one state after the other.
use Rattle.std.proofs.Common.{◌≡◌, ℕ, ◌+◌, ◌<◌, ◌≤◌, ◌⊎◌, ◌↔◌, List, length, get_or, set, replicate, Some, None, Option, sym, refl, ap, ◌∙◌, subst, inl, inr, ⊎_elim, arith}
use Rattle.std.proofs.lemmas.List.{get_or-set_same, get_or-set_other, get_or-replicate, get_or_past, length-set, length-replicate}
use Rattle.std.proofs.lemmas.Bool.{cases_eq, cases_lt}
use Rattle.sets.specs.declared.Set.{Set}
use Rattle.sets.specs.Sets.{In, none}
use Rattle.sets.proofs.Bits.{none_in}
use Rattle.kripke.proofs.Numbering.{number-none, number_old, number_new}
use Rattle.components.specs.Numbers.{number, Numbered}
use Rattle.components.specs.declared.Found.{Found}

-- the first s states have their numbers, and given has the number of each component that has one
pub record Giving (component : List ℕ) (turning : Set) (s : ℕ) (part₀ part : List ℕ) (given : List (Option ℕ)) (found : Found) : Type 0 where
  pub numbered : Numbered component turning s part₀ part found
  pub of : (c i : ℕ) → get_or given c None ≡ Some i → (t : ℕ) × (t < s) × (number component t ≡ c) × (number part t ≡ i)
  pub has : (t : ℕ) → t < s → get_or given (number component t) None ≡ Some (number part t)
  pub few : found.count ≤ s
  pub room : length given ≡ 128
  pub wide : length found.order ≡ 128

none_some : {o : Option ℕ} {i : ℕ} → o ≡ None → o ≡ Some i → ⊥
none_some p q = let z : ◌≡◌ {A = ℕ} 0 1 = cc in omega arith

some_same : {i j : ℕ} → Some i ≡ Some j → i ≡ j
some_same e = cc

-- a table of one value has it everywhere, and so does what is past it
same_everywhere : {X : Type 0} (n : ℕ) (x : X) (i : ℕ) → get_or (replicate n x) i x ≡ x
same_everywhere n x i = ⊎_elim (get_or-replicate n i x x) (λ past. get_or_past (replicate n x) i x (omega (arith, length-replicate n x))) (cases_lt i n)

pub giving_none : (component part : List ℕ) (turning : Set) → Giving component turning 0 part part (replicate 128 None) (record { count = 0; cyclic = none; order = replicate 128 0 })
giving_none component part turning = record {
  numbered = record {
    numbering = number-none (λ s t. number component s ≡ number component t) (number part);
    rest = λ s l. refl;
    cyclic = λ i. ((λ h. absurd (none_in i h)), (λ p. absurd (omega (arith, p.1))));
    order = λ s l. absurd (omega arith);
  };
  of = λ c i e. absurd (none_some (same_everywhere 128 None c) e);
  has = λ t l. absurd (omega arith);
  few = omega arith;
  room = refl;
  wide = refl;
}

module _ (component : List ℕ) (turning : Set) (s : ℕ) (part₀ part : List ℕ) (given : List (Option ℕ)) (found : Found)
    (before : Giving component turning s part₀ part given found) (inside : s < length part) where
  abbrev Same : ℕ → ℕ → Type 0
  Same a b = number component a ≡ number component b

  module _ (i : ℕ) where
    abbrev part' : List ℕ
    part' = set part s i

    here : number part' s ≡ i
    here = get_or-set_same part s i 0 inside

    kept : (t : ℕ) → (t ≡ s → ⊥) → number part' t ≡ number part t
    kept t ne = get_or-set_other part s t i 0 ne

    kept-below : (t : ℕ) → t < s → number part' t ≡ number part t
    kept-below t l = kept t (λ e. omega arith)

    rest' : (t : ℕ) → s + 1 ≤ t → number part' t ≡ number part₀ t
    rest' t l = kept t (λ e. omega arith) ∙ before.numbered.rest t (omega arith)

    -- a state with number j whose component turns
    Turning : ℕ → List ℕ → ℕ → Type 0
    Turning n p j = (t : ℕ) × (t < n) × (number p t ≡ j) × In turning (number component t)

    earlier : (j : ℕ) → Turning s part j → Turning (s + 1) part' j
    unfolding Turning
    earlier j h = (h.0, omega (arith, h.1), kept-below h.0 h.1 ∙ h.2, h.3)

    parted : (j : ℕ) → Turning (s + 1) part' j → Turning s part j ⊎ ((j ≡ i) × In turning (number component s))
    unfolding Turning
    parted j h = ⊎_elim
        (λ e. inr (sym h.2 ∙ ap (number part') e ∙ here, subst (λ x. In turning (number component x)) e h.3))
        (λ ne. let l : h.0 < s = omega (arith, h.1) in inl (h.0, l, sym (kept-below h.0 l) ∙ h.2, h.3))
        (cases_eq h.0 s)

  -- the component of s has the number i already
  pub giving_old : (i : ℕ) → get_or given (number component s) None ≡ Some i → Giving component turning (s + 1) part₀ (set part s i) given found
  unfolding Turning
  giving_old i e =
      let t = before.of (number component s) i e in
      record {
        numbered = record {
          numbering = number_old Same (λ a b q. sym q) (λ a b d p q. p ∙ q) s found.count refl (number part) (number (part' i)) before.numbered.numbering (kept-below i) t.0 t.1 t.2 (here i ∙ sym t.3);
          rest = rest' i;
          cyclic = λ j. (
            (λ h. earlier i j ((before.numbered.cyclic j).0 h)),
            (λ p. (before.numbered.cyclic j).1 (⊎_elim (λ o. o) (λ n. (t.0, t.1, t.3 ∙ sym n.0, subst (In turning) (sym t.2) n.1)) (parted i j p))),
          );
          order = λ u l. ⊎_elim
              (λ same. ap (λ x. number found.order (number component x)) same ∙ ap (number found.order) (sym t.2) ∙ before.numbered.order t.0 t.1 ∙ t.3 ∙ sym (here i) ∙ ap (number (part' i)) (sym same))
              (λ ne. let b : u < s = omega arith in before.numbered.order u b ∙ sym (kept-below i u b))
              (cases_eq u s);
        };
        of = λ d k q. let u = before.of d k q in (u.0, omega (arith, u.1), u.2, kept-below i u.0 u.1 ∙ u.3);
        has = λ u l. ⊎_elim
            (λ same. ap (λ x. get_or given (number component x) None) same ∙ e ∙ ap Some (sym (here i) ∙ ap (number (part' i)) (sym same)))
            (λ ne. let b : u < s = omega arith in before.has u b ∙ ap Some (sym (kept-below i u b)))
            (cases_eq u s);
        few = omega (arith, before.few);
        room = before.room;
        wide = before.wide;
      }

  -- s is the first member of its component
  pub giving_new : number component s < 128 → get_or given (number component s) None ≡ None → (cyclic' : Set) →
      ((j : ℕ) → In cyclic' j ↔ (In found.cyclic j ⊎ ((j ≡ found.count) × In turning (number component s)))) →
      Giving component turning (s + 1) part₀ (set part s found.count) (set given (number component s) (Some found.count)) (record { count = found.count + 1; cyclic = cyclic'; order = set found.order (number component s) found.count })
  unfolding Turning
  giving_new small e cyclic' more =
      let c : ℕ = number component s in
      let n : ℕ = found.count in
      let given' : List (Option ℕ) = set given c (Some n) in
      let other : (d : ℕ) → (d ≡ c → ⊥) → get_or given' d None ≡ get_or given d None = λ d ne. get_or-set_other given c d (Some n) None ne in
      let same' : get_or given' c None ≡ Some n = get_or-set_same given c (Some n) None (omega (arith, before.room)) in
      record {
        numbered = record {
          numbering = number_new Same (λ a b q. sym q) (λ a b d p q. p ∙ q) s n refl (number part) (number (part' n)) before.numbered.numbering (kept-below n)
              (λ j l q. none_some e (ap (λ x. get_or given x None) (sym q) ∙ before.has j l)) (here n);
          rest = rest' n;
          cyclic = λ j. (
            (λ h. ⊎_elim (λ o. earlier n j ((before.numbered.cyclic j).0 o)) (λ q. (s, omega arith, here n ∙ sym q.0, q.1)) ((more j).0 h)),
            (λ p. (more j).1 (⊎_elim (λ o. inl ((before.numbered.cyclic j).1 o)) inr (parted n j p))),
          );
          order = λ u l. ⊎_elim
              (λ same. ap (λ x. number (set found.order c n) (number component x)) same ∙ get_or-set_same found.order c n 0 (omega (arith, before.wide)) ∙ sym (here n) ∙ ap (number (part' n)) (sym same))
              (λ ne.
              let b : u < s = omega arith in
              get_or-set_other found.order c (number component u) n 0 (λ f. none_some e (ap (λ x. get_or given x None) (sym f) ∙ before.has u b))
              ∙ before.numbered.order u b ∙ sym (kept-below n u b))
              (cases_eq u s);
        };
        of = λ d k q. ⊎_elim
            (λ f. (s, omega arith, sym f, here n ∙ some_same (sym same' ∙ ap (λ x. get_or given' x None) (sym f) ∙ q)))
            (λ ne. let u = before.of d k (sym (other d ne) ∙ q) in (u.0, omega (arith, u.1), u.2, kept-below n u.0 u.1 ∙ u.3))
            (cases_eq d c);
        has = λ u l. ⊎_elim
            (λ same. ap (λ x. get_or given' (number component x) None) same ∙ same' ∙ ap Some (sym (here n) ∙ ap (number (part' n)) (sym same)))
            (λ ne.
            let b : u < s = omega arith in
            let old = before.has u b in
            other (number component u) (λ f. none_some e (ap (λ x. get_or given x None) (sym f) ∙ old)) ∙ old ∙ ap Some (sym (kept-below n u b)))
            (cases_eq u s);
        few = omega (arith, before.few);
        room = length-set given c (Some n) ∙ before.room;
        wide = length-set found.order c n ∙ before.wide;
      }

-- the same of what is equal
pub giving_same : (component : List ℕ) (turning : Set) (s : ℕ) (part₀ : List ℕ) {part part' : List ℕ} {given given' : List (Option ℕ)} {found found' : Found} →
    part' ≡ part → given' ≡ given → found' ≡ found → Giving component turning s part₀ part given found → Giving component turning s part₀ part' given' found'
giving_same component turning s part₀ p q r h = rw p (rw q (rw r h))
