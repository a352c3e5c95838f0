-- A round, told by components: NEXT and LOOP of a state are the classes ahead of what its component reaches.
use Rattle.std.proofs.Common.{◌≡◌, ℕ, suc, ◌<◌, ◌↔◌, sym, refl, ap, ◌∙◌, subst, inl, inr, arith}
use native.Mathlib.Decide.{ℕ_discrete}
use Rattle.kripke.specs.Models.{Kripke, WellFormed, Alike}
use Rattle.kripke.specs.Paths.{Move}
use Rattle.kripke.specs.Relation.{ST, NEXT, LOOP, Matched, Related}
use Rattle.kripke.specs.Numbering.{Numbering}
use Rattle.kripke.specs.Components.{Components}
use Rattle.kripke.proofs.Paths.{trail_map, trail_first}
use Rattle.kripke.proofs.Deciding.{dec_related}
use Rattle.kripke.proofs.Rounds.{st_related, st_more, alike_equivalence, related_equivalence, related_down}
use Rattle.kripke.proofs.Components.{Mutual, components_mutual, mutual_kept}
use Rattle.kripke.proofs.Stability.{trail_st}
use Rattle.sets.specs.Sets.{In}
use Rattle.merger.specs.declared.tables.Found.{Found}
use Rattle.merger.specs.declared.tables.Rounds.{Rounds}
use Rattle.merger.specs.Grids.{at, set_at}
use Rattle.merger.specs.Reaching.{On, Outlook}
use Rattle.merger.specs.Tables.{part, class_of, Passes}
use Rattle.merger.specs.Analysed.{Surveyed, Tabled}

module _ (M : Kripke) (formed : WellFormed M) (part : ℕ → ℕ) (count : ℕ) (K : Components M.frame (Alike M) part count) where
  numbered : Numbering (Mutual M.frame (Alike M)) M.frame.size part count
  numbered = components_mutual M.frame (Alike M) (alike_equivalence M) part count K (dec_related M formed 0)

  -- states of one component reach one another inside every class
  pub part_st : (r s t : ℕ) → s < M.frame.size → t < M.frame.size → part s ≡ part t → ST M.frame (Related M r) s t
  part_st r s t h k e = (mutual_kept M r s t ((numbered.same s t h k).0 e)).0

-- the tables after r rounds
module _ (M : Kripke) (r : ℕ) (F : Found) (S : Rounds) (A : Tabled M r F S) where
  O : Surveyed M F
  O = A.surveyed

  inside : (s : ℕ) → s < M.frame.size → part F s < S.partition.len
  inside s h = let l = O.components.ranked.below s h in let e = A.items in omega arith

  step : (k l : ℕ) → k < S.partition.len → In (set_at F.moves k) l ↔ Passes M.frame (part F) k l
  step k l h = O.moves k l (let e = A.items in omega arith)

  abbrev C : ℕ → ℕ → Type 0
  C = Related M r

  abbrev Out : ℕ → ℕ → Type 0
  Out s c = Outlook S.reach F.moves S.partition (part F s) c

  together : (s t : ℕ) → s < M.frame.size → t < M.frame.size → part F s ≡ part F t → ST M.frame C s t
  together = part_st M O.formed (part F) F.components O.components r

  near : (s t : ℕ) → ST M.frame C s t → C s t
  near = st_related M.frame C (related_equivalence M r)

  further : (s t u : ℕ) → ST M.frame C s t → Move M.frame t u → C s u → ST M.frame C s u
  further = st_more M.frame C (related_equivalence M r)

  alike : (s x u : ℕ) → C s x → C s u → Alike M x u
  alike s x u p q = related_down M r 0 x u (omega arith) ((related_equivalence M r).join x s u ((related_equivalence M r).turn s x p) q)

  pub loop_out : (s : ℕ) → s < M.frame.size → LOOP M.frame C s → Out s (class_of F S s)
  loop_out s h l =
      let x : ℕ = l.0 in
      let u : ℕ = l.2.0 in
      let m : Move M.frame x u = l.2.2 in
      let px = near s x l.2.1 in
      let pu = near s u (trail_first M.frame (ST M.frame C s) l.1 u x l.2.3) in
      let on : ST M.frame (Alike M) x u = (1, (u, alike s x x px px, m, (refl, alike s x u px pu))) in
      let back : ST M.frame (Alike M) u x =
      (l.1, trail_map M.frame (ST M.frame C s) (Alike M u) (λ w _ f. alike s u w pu (near s w f)) l.1 u x m.2 l.2.3) in
      let e : part F x ≡ part F u = ((numbered M O.formed (part F) F.components O.components).same x u m.1 m.2).1 (on, back) in
      let k = inside x m.1 in
      (part F x, k, (A.reach s x h m.1).1 l.2.1, (part F x, (step (part F x) (part F x) k).1 (x, u, m, refl, sym e), inr refl, sym ((A.classes.same s x h m.1).1 px)))

  pub next_out : (s v : ℕ) → s < M.frame.size → NEXT M.frame C s v → Out s (class_of F S v)
  next_out s v h x =
      let u : ℕ = x.0 in
      let m : Move M.frame u v = x.3 in
      let k = inside u m.1 in
      let here = (A.classes.same s u h m.1).1 (near s u x.2) in (
        part F u,
        k,
        (A.reach s u h m.1).1 x.2,
        (
          part F v,
          (step (part F u) (part F v) k).1 (u, v, m, refl, refl),
          inl (λ e. x.1 (further s u v x.2 m ((A.classes.same s v h m.2).0 (here ∙ sym e)))),
          refl,
        ),
      )

  -- where the way out begins: a move from what s reaches
  record Begins (s from to : ℕ) : Type 0 where
    u : ℕ
    v : ℕ
    moves : Move M.frame u v
    starts : part F u ≡ from
    ends : part F v ≡ to
    reached : ST M.frame C s u

  begins : (s c : ℕ) → s < M.frame.size → (g : Out s c) → Begins s g.0 g.3.0
  begins s c h g =
      let o = (step g.0 g.3.0 g.1).0 g.3.1 in
      record {
        u = o.0;
        v = o.1;
        moves = o.2;
        starts = o.3;
        ends = o.4;
        reached = (A.reach s o.0 h o.2.1).0 (subst (λ k. On S.reach (part F s) k) (sym o.3) g.2);
      }

  pub out_loop : (s : ℕ) → s < M.frame.size → Out s (class_of F S s) → LOOP M.frame C s
  out_loop s h g =
      let b = begins s (class_of F S s) h g in
      let u : ℕ = b.u in
      let v : ℕ = b.v in
      let m : Move M.frame u v = b.moves in
      let cu = near s u b.reached in
      elim g.3.2 [
        | inl away ↦ absurd (away (g.3.3 ∙ (A.classes.same s u h m.1).1 cu ∙ ap (at S.partition.class) b.starts))
        | inr stays ↦
            let e : part F v ≡ part F u = b.ends ∙ stays ∙ sym b.starts in
            let back = together v u m.2 m.1 e in
            let cv = (related_equivalence M r).join s u v cu (near u v (together u v m.1 m.2 (sym e))) in
            let wv = further s u v b.reached m cv in (
              u,
              back.0,
              (
                v,
                b.reached,
                m,
                trail_st M.frame C s back.0 v u wv
                    (trail_map M.frame (C v) (C s) (λ w _ f. (related_equivalence M r).join s v w cv f) back.0 v u m.2 back.1),
              ),
            )
      ]

  pub out_next : (s c : ℕ) → s < M.frame.size → (c ≡ class_of F S s → ⊥) → Out s c → (v : ℕ) × NEXT M.frame C s v × (class_of F S v ≡ c)
  out_next s c h other g =
      let b = begins s c h g in
      let v : ℕ = b.v in
      let m : Move M.frame b.u v = b.moves in
      let e : class_of F S v ≡ c = ap (at S.partition.class) b.ends ∙ g.3.3 in
      (v, (b.u, (λ w. other (sym e ∙ sym ((A.classes.same s v h m.2).1 (near s v w)))), b.reached, m), e)

  over : (s t : ℕ) → s < M.frame.size → t < M.frame.size → Related M (suc r) s t → class_of F S s ≡ class_of F S t → (c : ℕ) → Out s c → Out t c
  over s t h k e one c g =
      elim (ℕ_discrete c (class_of F S s)) [
        | yes own ↦ subst (Out t) (sym (own ∙ one)) (loop_out t k (e.1.0 (out_loop s h (subst (Out s) own g))))
        | no other ↦
            let x = out_next s c h other g in
            let y = e.2 x.0 x.1 in
            subst (Out t) (sym ((A.classes.same x.0 y.0 x.1.3.2 y.1.3.2).1 y.2) ∙ x.2) (next_out t y.0 k y.1)
      ]

  match : (s t : ℕ) → s < M.frame.size → t < M.frame.size → class_of F S s ≡ class_of F S t → ((c : ℕ) → Out s c → Out t c) → Matched M.frame C s t
  match s t h k one f u x =
      let b = x.3.2 in
      let away : class_of F S u ≡ class_of F S t → ⊥ =
      λ e. x.1 (further s x.0 u x.2 x.3 ((A.classes.same s u h b).0 (one ∙ sym e))) in
      let y = out_next t (class_of F S u) k away (f (class_of F S u) (next_out s u h x)) in
      (y.0, y.1, (A.classes.same u y.0 b y.1.3.2).0 (sym y.2))

  -- one more round relates two states exactly where their components have one class, and the same classes ahead
  pub round_parts : (s t : ℕ) → s < M.frame.size → t < M.frame.size →
      Related M (suc r) s t ↔ ((class_of F S s ≡ class_of F S t) × ((c : ℕ) → Out s c ↔ Out t c))
  round_parts s t h k = (
    (λ e.
        let one = (A.classes.same s t h k).1 e.0 in
        (one, λ c. (over s t h k e one c, over t s k h ((related_equivalence M (suc r)).turn s t e) (sym one) c))),
    (λ p. (
      (A.classes.same s t h k).0 p.0,
      (
        (λ l. out_loop t k (subst (Out t) p.0 ((p.1 (class_of F S s)).0 (loop_out s h l)))),
        (λ l. out_loop s h (subst (Out s) (sym p.0) ((p.1 (class_of F S t)).1 (loop_out t k l)))),
      ),
      match s t h k p.0 (λ c. (p.1 c).0),
      match t s k h (sym p.0) (λ c. (p.1 c).1),
    )),
  )
