-- Classes that one more round does not part make a model similar to itself, so that no formula parts them.
use Rattle.std.proofs.Common.{◌≡◌, ℕ, zero, suc, ◌<◌, ◌↔◌, sym, refl, ◌∙◌, arith}
use Rattle.kripke.specs.Models.{Frame, Kripke}
use Rattle.kripke.specs.Paths.{Move, Trail, Stays}
use Rattle.kripke.specs.Formulas.{Agree}
use Rattle.kripke.specs.Relation.{ST, NEXT, LOOP, Related, Stable}
use Rattle.kripke.proofs.Similar.{Numbers, Fellow, Leaves, Circles, Follows}
use Rattle.kripke.proofs.Paths.{trail_map, trail_first, trail_last, trail_more, stays_map, stays_behind, stays_round}
use Rattle.kripke.proofs.Cycle.{lasso, pump}
use Rattle.kripke.proofs.Agreement.{agree}
use Rattle.kripke.proofs.Rounds.{related_down}

-- the states on a path from ST(s) among states that C relates to s are in ST(s)
pub trail_st : (F : Frame) (C : ℕ → ℕ → Type 0) (s n x y : ℕ) → ST F C s x → Trail (Move F) (C s) n x y → Trail (Move F) (ST F C s) n x y
trail_st F C s zero x y w p = (p.0, w)
trail_st F C s (suc n) x y w p =
    let next : ST F C s p.0 = (suc w.0, trail_more F (C s) w.0 s x p.0 w.1 p.2 (trail_first F (C s) n p.0 y p.3)) in
    (p.0, w, p.2, trail_st F C s n p.0 y next p.3)

-- LOOP(s) is a path of as many moves as there are states, among states that C relates to s
pub loop_stays : (F : Frame) (C : ℕ → ℕ → Type 0) (s : ℕ) → s < F.size → LOOP F C s ↔ Stays (Move F) (C s) F.size s
loop_stays F C s h = (
  (λ l.
      let x : ℕ = l.0 in
      let reach = l.2.1 in
      let back = trail_map F (ST F C s) (C s) (λ w _ f. trail_last F (C s) f.0 s w f.1) (suc l.1) x x l.2.2.1 l.2 in
      stays_behind F (C s) reach.0 F.size s x reach.1 (stays_round F (C s) l.1 x back F.size)),
  (λ p.
      let l = lasso F (C s) s h p in
      (l.0, l.2, trail_st F C s (suc l.2) l.0 l.0 (l.1, l.3) l.4)),
)

module _ (F : Frame) (C : ℕ → ℕ → Type 0) (c : ℕ → ℕ) (numbers : Numbers F C c) (s : ℕ) (h : s < F.size) where
  fellow-here : (w : ℕ) → w < F.size → C s w → Fellow c s w
  fellow-here w b f = sym ((numbers s w h b).1 f)

  here-fellow : (w : ℕ) → w < F.size → Fellow c s w → C s w
  here-fellow w b f = (numbers s w h b).0 (sym f)

  pub loop_circles : LOOP F C s ↔ Circles F c s
  loop_circles =
      let l = loop_stays F C s h in (
        (λ p. pump F (Fellow c s) s h (stays_map F (C s) (Fellow c s) fellow-here F.size s h (l.0 p))),
        (λ p. l.1 (stays_map F (Fellow c s) (C s) here-fellow F.size s h (p F.size))),
      )

  pub next_leaves : (v : ℕ) → NEXT F C s v → Leaves F c s (c v)
  next_leaves v x = (x.0, v, x.2.0, trail_map F (C s) (Fellow c s) fellow-here x.2.0 s x.0 h x.2.1, x.3, refl)

  pub leaves_next : (e : ℕ) → (e ≡ c s → ⊥) → Leaves F c s e → (v : ℕ) × NEXT F C s v × (c v ≡ e)
  leaves_next e other l =
      let v : ℕ = l.1 in (
        v,
        (
          l.0,
          (λ w. other (sym l.5 ∙ fellow-here v l.4.2 (trail_last F (C s) w.0 s v w.1))),
          (l.2, trail_map F (Fellow c s) (C s) here-fellow l.2 s l.0 h l.3),
          l.4,
        ),
        l.5,
      )

pub stable_follows : (M : Kripke) (r : ℕ) (c : ℕ → ℕ) → Numbers M.frame (Related M r) c → Stable M r → Follows M c M c
stable_follows M r c numbers stable =
    record {
      says = λ s x h k e a. (related_down M r 0 s x (omega arith) ((numbers s x h k).0 e)).2 a;
      leaves = λ s x h k e i other l.
          let near = stable s x ((numbers s x h k).0 e) in
          let y = leaves_next M.frame (Related M r) c numbers s h i other l in
          let z = near.2 y.0 y.1 in
          let o = next_leaves M.frame (Related M r) c numbers x k z.0 z.1 in
          let same : c z.0 ≡ i = sym ((numbers y.0 z.0 y.1.3.2 z.1.3.2).1 z.2) ∙ y.2 in
          (o.0, o.1, o.2, o.3, o.4, o.5 ∙ same);
      circles = λ s x h k e p.
          let near = stable s x ((numbers s x h k).0 e) in
          (loop_circles M.frame (Related M r) c numbers x k).0 (near.1.0 ((loop_circles M.frame (Related M r) c numbers s h).1 p));
    }

pub stable_agrees : (M : Kripke) (r : ℕ) (c : ℕ → ℕ) → Numbers M.frame (Related M r) c → Stable M r →
    (s t : ℕ) → s < M.frame.size → t < M.frame.size → Related M r s t → Agree M s M t
stable_agrees M r c numbers stable s t h k e f =
    let F = stable_follows M r c numbers stable in
    agree M c M c (F, F) f s t h k ((numbers s t h k).1 e)
