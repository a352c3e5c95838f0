-- The relation of each round is an equivalence on the states and refines the one before; how ST, NEXT and LOOP pass on along ST, and how ST narrows.
use Rattle.std.proofs.Common.{◌≡◌, ℕ, zero, suc, ◌<◌, ◌≤◌, ◌↔◌, sym, refl, ◌∙◌, subst, arith}
use native.Mathlib.Decide.{ℕ_discrete}
use Rattle.kripke.specs.Models.{Frame, Kripke, Alike}
use Rattle.kripke.specs.Equivalence.{Equivalence}
use Rattle.kripke.specs.Paths.{Move, Trail}
use Rattle.kripke.specs.Relation.{ST, NEXT, LOOP, Matched, Refined, Related}
use Rattle.kripke.proofs.Paths.{trail_map, trail_first, trail_last, trail_more, trail_join}

module _ (F : Frame) (C : ℕ → ℕ → Type 0) (E : Equivalence F.size C) where
  pub st_own : (s : ℕ) → s < F.size → ST F C s s
  st_own s h = (0, (refl, E.own s h))

  pub st_related : (s t : ℕ) → ST F C s t → C s t
  st_related s t p = trail_last F (C s) p.0 s t p.1

  pub st_more : (s t u : ℕ) → ST F C s t → Move F t u → C s u → ST F C s u
  st_more s t u p m q = (suc p.0, trail_more F (C s) p.0 s t u p.1 m q)

  pub st_join : (s t u : ℕ) → ST F C s t → ST F C t u → ST F C s u
  st_join s t u p q =
      let near = st_related s t p in
      trail_join F (C s) p.0 q.0 s t u p.1 (trail_map F (C t) (C s) (λ w _ f. E.join s t w near f) q.0 t u (E.members s t near).1 q.1)

  -- the states of NEXT(t), for t in ST(s), are in NEXT(s)
  pub next_ahead : (s t v : ℕ) → ST F C s t → NEXT F C t v → NEXT F C s v
  next_ahead s t v p x = (
    x.0,
    (λ q. x.1 (st_more t x.0 v x.2 x.3 (E.join t s v (E.turn s t (st_related s t p)) (st_related s v q)))),
    st_join s t x.0 p x.2,
    x.3,
  )

  -- and a cycle in ST(t) is one in ST(s)
  pub loop_ahead : (s t : ℕ) → ST F C s t → LOOP F C t → LOOP F C s
  loop_ahead s t p l =
      (l.0, l.1, trail_map F (ST F C t) (ST F C s) (λ w _ f. st_join s t w p f) (suc l.1) l.0 l.0 l.2.2.1 l.2)

  matched-own : (s : ℕ) → Matched F C s s
  matched-own s u x = (u, x, E.own u x.3.2)

  matched-join : (s t u : ℕ) → Matched F C s t → Matched F C t u → Matched F C s u
  matched-join s t u p q v x =
      let y = p v x in
      let z = q y.0 y.1 in
      (z.0, z.1, E.join v y.0 z.0 y.2 z.2)

  pub refined_equivalence : Equivalence F.size (Refined F C)
  refined_equivalence = record {
    members = λ s t p. E.members s t p.0;
    own = λ s h. (E.own s h, (λ l. l, λ l. l), matched-own s, matched-own s);
    turn = λ s t p. (E.turn s t p.0, (p.1.1, p.1.0), p.3, p.2);
    join = λ s t u p q. (
      E.join s t u p.0 q.0,
      (λ l. q.1.0 (p.1.0 l), λ l. p.1.1 (q.1.1 l)),
      matched-join s t u p.2 q.2,
      matched-join u t s q.3 p.3,
    );
  }

  -- where a path inside the class goes from s by u to t, and one more round relates s and t, it relates s and u
  pub between : (s u t : ℕ) → ST F C s u → ST F C u t → Refined F C s t → Refined F C s u
  between s u t p q e = (
    st_related s u p,
    ((λ l. loop_ahead u t q (e.1.0 l)), (λ l. loop_ahead s u p l)),
    (λ v x. let y = e.2 v x in (y.0, next_ahead u t y.0 q y.1, y.2)),
    (λ v x. (v, next_ahead s u v p x, E.own v x.3.2)),
  )

  narrow : (s t : ℕ) → Refined F C s t → (n u : ℕ) → ST F C s u → Trail (Move F) (C s) n u t → Trail (Move F) (Refined F C s) n u t
  narrow s t e zero u p q = (q.0, subst (λ w. Refined F C s w) (sym q.0) e)
  narrow s t e (suc n) u p q =
      let near = st_related s u p in
      let w : ℕ = q.0 in
      let next = st_more s u w p q.2 (trail_first F (C s) n w t q.3) in
      let on : ST F C u t = (suc n, trail_map F (C s) (C u) (λ v _ f. E.join u s v (E.turn s u near) f) (suc n) u t (E.members s u near).1 q) in
      (w, between s u t p on e, q.2, narrow s t e n w next q.3)

  -- ST of the next round: of the old ST, what is still related
  pub st_next : (s t : ℕ) → ST F (Refined F C) s t ↔ (ST F C s t × Refined F C s t)
  st_next s t = (
    (λ p.
        let near = trail_first F (Refined F C s) p.0 s t p.1 in (
          (p.0, trail_map F (Refined F C s) (C s) (λ w _ f. f.0) p.0 s t (E.members s s near.0).1 p.1),
          trail_last F (Refined F C s) p.0 s t p.1,
        )),
    (λ p.
        let near = trail_first F (C s) p.0.0 s t p.0.1 in
        (p.0.0, narrow s t p.1 p.0.0 s (st_own s (E.members s s near).0) p.0.1)),
  )

pub alike_equivalence : (M : Kripke) → Equivalence M.frame.size (Alike M)
alike_equivalence M = record {
  members = λ s t p. (p.0, p.1);
  own = λ s h. (h, h, λ a. refl);
  turn = λ s t p. (p.1, p.0, λ a. sym (p.2 a));
  join = λ s t u p q. (p.0, q.1, λ a. p.2 a ∙ q.2 a);
}

pub related_equivalence : (M : Kripke) (r : ℕ) → Equivalence M.frame.size (Related M r)
related_equivalence M zero = alike_equivalence M
related_equivalence M (suc r) = refined_equivalence M.frame (Related M r) (related_equivalence M r)

-- a later round relates no more
pub related_down : (M : Kripke) (r q s t : ℕ) → q ≤ r → Related M r s t → Related M q s t
related_down M zero q s t h p = let e : zero ≡ q = omega arith in subst (λ k. Related M k s t) e p
related_down M (suc r) q s t h p =
    elim (ℕ_discrete (suc r) q) [
      | yes e ↦ subst (λ k. Related M k s t) e p
      | no other ↦ related_down M r q s t (omega arith) p.0
    ]

pub st_narrows : (M : Kripke) (r s t : ℕ) →
    ST M.frame (Related M (suc r)) s t ↔ (ST M.frame (Related M r) s t × Related M (suc r) s t)
st_narrows M r = st_next M.frame (Related M r) (related_equivalence M r)
