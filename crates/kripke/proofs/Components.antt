-- The components of a frame are the classes of states that reach one another inside their class of related states.
use Rattle.std.proofs.Common.{◌≡◌, ℕ, zero, suc, ◌<◌, Bool, true, false, eqb, ltb, ◌↔◌, sym, refl, ◌∙◌, subst}
use mathlib.Core.Logic.Dec
use Rattle.std.proofs.lemmas.Bool.{false≢true, ltb-true, lt-ltb, eqb-true, eq-eqb, and_parts, and_from}
use Rattle.kripke.specs.Models.{Frame, Kripke, Alike}
use Rattle.kripke.specs.Equivalence.{Equivalence}
use Rattle.kripke.specs.Paths.{Move, Trail}
use Rattle.kripke.specs.Relation.{ST, Refined, Related}
use Rattle.kripke.specs.Numbering.{Numbering}
use Rattle.kripke.specs.Components.{States, Joined, Component, numbered, Components, Cyclic}
use Rattle.kripke.proofs.Paths.{trail_map, trail_first}
use Rattle.kripke.proofs.Roads.{dec_ST}
use Rattle.kripke.proofs.Rounds.{st_own, st_related, st_more, st_join, between, st_next, refined_equivalence, related_equivalence}

-- s and t reach one another among the states that L relates to them
abbrev pub Mutual : Frame → (ℕ → ℕ → Type 0) → ℕ → ℕ → Type 0
Mutual F L s t = ST F L s t × ST F L t s

-- the test that a decision gives
test : {A : Type 0} → Dec A → Bool
test (yes a) = true
test (no o) = false

test_true : {A : Type 0} (d : Dec A) → test d ≡ true → A
unfolding test
test_true (yes a) e = a
test_true (no o) e = absurd (false≢true e)

true_test : {A : Type 0} (d : Dec A) → A → test d ≡ true
unfolding test
true_test (yes a) b = refl
true_test (no o) b = absurd (o b)

pub numbered-part : (F : Frame) (part : ℕ → ℕ) (i s : ℕ) → numbered F part i s ≡ true → (s < F.size) × (part s ≡ i)
numbered-part F part i s e =
    let p = and_parts (ltb s F.size) (eqb (part s) i) e in
    (ltb-true s F.size p.0, eqb-true (part s) i p.1)

pub part-numbered : (F : Frame) (part : ℕ → ℕ) (i s : ℕ) → s < F.size → part s ≡ i → numbered F part i s ≡ true
part-numbered F part i s h e = and_from (ltb s F.size) (eqb (part s) i) (lt-ltb s F.size h) (eq-eqb (part s) i e)

module _ (F : Frame) (L : ℕ → ℕ → Type 0) (E : Equivalence F.size L) where
  pub mutual_equivalence : Equivalence F.size (Mutual F L)
  mutual_equivalence = record {
    members = λ s t p. E.members s t (st_related F L E s t p.0);
    own = λ s h. (st_own F L E s h, st_own F L E s h);
    turn = λ s t p. (p.1, p.0);
    join = λ s t u p q. (st_join F L E s t u p.0 q.0, st_join F L E u t s q.1 p.1);
  }

  -- on a path of related states from s, by u, to t, from which s is reached again, each state and s reach one another
  round_trip : (s t n u : ℕ) → ST F L s u → Trail (Move F) (L s) n u t → ST F L t s → Trail (Move F) (Mutual F L s) n u t
  round_trip s t zero u p q back = (q.0, (p, subst (λ w. ST F L w s) (sym q.0) back))
  round_trip s t (suc n) u p q back =
      let near = st_related F L E s u p in
      let w : ℕ = q.0 in
      let on : ST F L u t = (suc n, trail_map F (L s) (L u) (λ v _ f. E.join u s v (E.turn s u near) f) (suc n) u t (E.members s u near).1 q) in
      let next = st_more F L E s u w p q.2 (trail_first F (L s) n w t q.3) in
      (w, (p, st_join F L E u t s on back), q.2, round_trip s t n w next q.3 back)

  -- all states that s reaches and that reach it: a joined set
  mutual-joined : (S : States) (s : ℕ) → ((u : ℕ) → S u ≡ true → Mutual F L s u) → ((u : ℕ) → Mutual F L s u → S u ≡ true) → Joined F L S
  mutual-joined S s to from = record {
    related = λ u v a b. E.join u s v (E.turn s u (st_related F L E s u (to u a).0)) (st_related F L E s v (to v b).0);
    reach = λ u v a b.
        let Q = mutual_equivalence in
        let near = to u a in
        let p = Q.join u s v (Q.turn s u near) (to v b) in
        let h = (E.members s u (st_related F L E s u near.0)).1 in
        let way = round_trip u v p.0.0 u (st_own F L E u h) p.0.1 p.1 in
        (p.0.0, trail_map F (Mutual F L u) (λ w. S w ≡ true) (λ w _ q. from w (Q.join s u w near q)) p.0.0 u v h way);
  }

  pub joined_mutual : (S : States) → Joined F L S → (s t : ℕ) → S s ≡ true → S t ≡ true → Mutual F L s t
  joined_mutual S J s t a b = (one s t a b, one t s b a)
    where
      one : (s t : ℕ) → S s ≡ true → S t ≡ true → ST F L s t
      one s t a b =
          let p = J.reach s t a b in
          (p.0, trail_map F (λ w. S w ≡ true) (L s) (λ w _ q. J.related s w a q) p.0 s t (E.members s s (J.related s s a a)).0 p.1)

  module _ (part : ℕ → ℕ) (count : ℕ) where
    -- a search that numbers by mutual reach has found the components
    pub mutual_components : Numbering (Mutual F L) F.size part count → Components F L part count
    mutual_components N = record { ranked = N.ranked; each = λ i h. let s = N.ranked.member i h in component i s.0 s.1 s.2 }
      where
        to : (i s : ℕ) → s < F.size → part s ≡ i → (u : ℕ) → numbered F part i u ≡ true → Mutual F L s u
        to i s h e u a = let p = numbered-part F part i u a in (N.same s u h p.0).0 (e ∙ sym p.1)

        from : (i s : ℕ) → s < F.size → part s ≡ i → (u : ℕ) → Mutual F L s u → numbered F part i u ≡ true
        from i s h e u p =
            let l = (mutual_equivalence.members s u p).1 in
            part-numbered F part i u l (sym ((N.same s u h l).1 p) ∙ e)

        component : (i s : ℕ) → s < F.size → part s ≡ i → Component F L (numbered F part i)
        component i s h e =
            let here = part-numbered F part i s h e in
            record {
              some = (s, here);
              joined = mutual-joined (numbered F part i) s (to i s h e) (from i s h e);
              largest = λ T J inside u a. from i s h e u (joined_mutual T J s u (inside s here) a);
            }

    module _ (K : Components F L part count) where
      -- states of one component reach one another
      pub component_mutual : (s t : ℕ) → s < F.size → t < F.size → part s ≡ part t → Mutual F L s t
      component_mutual s t h l e =
          joined_mutual (numbered F part (part s)) (K.each (part s) (K.ranked.below s h)).joined s t
          (part-numbered F part (part s) s h refl) (part-numbered F part (part s) t l (sym e))

      -- and states that reach one another are of one component, the largest
      mutual-component : ((s t : ℕ) → Dec (L s t)) → (s t : ℕ) → s < F.size → Mutual F L s t → part s ≡ part t
      mutual-component d s t h p =
          let C = K.each (part s) (K.ranked.below s h) in
          sym (numbered-part F part (part s) t (C.largest all (mutual-joined all s to from) inside t (from t p))).1
        where
          near : (u : ℕ) → Dec (Mutual F L s u)
          near u = Dec.and (dec_ST F L d s u) (dec_ST F L d u s)

          all : States
          all u = test (near u)

          to : (u : ℕ) → all u ≡ true → Mutual F L s u
          to u = test_true (near u)

          from : (u : ℕ) → Mutual F L s u → all u ≡ true
          from u = true_test (near u)

          inside : (u : ℕ) → numbered F part (part s) u ≡ true → all u ≡ true
          inside u a = let q = numbered-part F part (part s) u a in from u (component_mutual s u h q.0 (sym q.1))

      -- so the components are numbered by mutual reach
      pub components_mutual : ((s t : ℕ) → Dec (L s t)) → Numbering (Mutual F L) F.size part count
      components_mutual d = record { ranked = K.ranked; same = λ s t h l. (component_mutual s t h l, mutual-component d s t h) }

-- a component holds a cycle exactly where one of its states moves to one of its states
pub cyclic_move : (F : Frame) (L : ℕ → ℕ → Type 0) (S : States) → Joined F L S → Cyclic F S ↔ ((s t : ℕ) × Move F s t × (S s ≡ true) × (S t ≡ true))
cyclic_move F L S J = (
  (λ c. let p = c.2 in (c.0, p.0, p.2, p.1, trail_first F (λ w. S w ≡ true) c.1 p.0 c.0 p.3)),
  (λ p.
      let back = J.reach p.1 p.0 p.4 p.3 in
      (p.0, back.0, (p.1, p.3, p.2, back.1))),
)

-- no round parts states that reach one another
pub mutual_refined : (F : Frame) (C : ℕ → ℕ → Type 0) → Equivalence F.size C → (s t : ℕ) → Mutual F C s t → Mutual F (Refined F C) s t
mutual_refined F C E s t p =
    let Q = refined_equivalence F C E in
    let h = E.members s t (st_related F C E s t p.0) in
    let near = between F C E s t s p.0 p.1 (Q.own s h.0) in
    ((st_next F C E s t).1 (p.0, near), (st_next F C E t s).1 (p.1, Q.turn s t near))

pub mutual_kept : (M : Kripke) (r s t : ℕ) → Mutual M.frame (Alike M) s t → Mutual M.frame (Related M r) s t
mutual_kept M zero s t p = p
mutual_kept M (suc r) s t p = mutual_refined M.frame (Related M r) (related_equivalence M r) s t (mutual_kept M r s t p)
