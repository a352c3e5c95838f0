-- What similar models agree on: every formula.
use Rattle.std.proofs.Common.{◌≡◌, ℕ, zero, suc, ◌<◌, ◌⊎◌, ◌↔◌, sym, refl, ◌∙◌, inl, inr}
use native.Mathlib.Decide.{ℕ_discrete}
use Rattle.kripke.specs.Models.{Frame, Kripke}
use Rattle.kripke.specs.Paths.{Move, Trail, Until, Stays}
use Rattle.kripke.specs.Formulas.{Formula, top, word, neg, or, until, globally, Holds}
use Rattle.kripke.proofs.Similar.{Fellow, Follows, Similar}
use Rattle.kripke.proofs.Paths.{trail_map, trail_last, stays_map, stays_behind, until_behind}
use Rattle.kripke.proofs.Cycle.{pump, onwards}

-- from s, which has paths of P of every length: n moves inside the class e, or some moves inside it and one out of it, to another such state
abbrev Scanned : Frame → (ℕ → ℕ) → (ℕ → Type 0) → ℕ → ℕ → ℕ → Type 0
Scanned F c P e n s =
    Stays (Move F) (λ w. c w ≡ e) n s ⊎
    ((u v k : ℕ) × Trail (Move F) (λ w. c w ≡ e) k s u × Move F u v × (c v ≡ e → ⊥) × ((m : ℕ) → Stays (Move F) P m v))

pub scan : (F : Frame) (c : ℕ → ℕ) (P : ℕ → Type 0) (e n s : ℕ) → c s ≡ e → ((m : ℕ) → Stays (Move F) P m s) → Scanned F c P e n s
scan F c P e zero s q p = inl q
scan F c P e (suc n) s q p =
    let o = onwards F P s p in
    let t : ℕ = o.0 in
    elim (ℕ_discrete (c t) e) [
      | yes same ↦ elim (scan F c P e n t same o.2) [
        | inl r ↦ inl (t, q, o.1, r)
        | inr r ↦ inr (r.0, r.1, suc r.2, (t, q, o.1, r.3), r.4, r.5, r.6)
      ]
      | no other ↦ inr (s, t, 0, (refl, q), o.1, other, o.2)
    ]

module _ (M : Kripke) (c : ℕ → ℕ) (X : Kripke) (d : ℕ → ℕ) (F : Follows M c X d) (P P' : ℕ → Type 0)
    (like : (s x : ℕ) → s < M.frame.size → x < X.frame.size → c s ≡ d x → P s → P' x) where
  pub until_over : (Q Q' : ℕ → Type 0) → ((s x : ℕ) → s < M.frame.size → x < X.frame.size → c s ≡ d x → Q s → Q' x) →
      (n s x : ℕ) → s < M.frame.size → x < X.frame.size → c s ≡ d x → Until (Move M.frame) P Q n s → (m : ℕ) × Until (Move X.frame) P' Q' m x
  until_over Q Q' like' zero s x h k e p = (0, like' s x h k e p)
  until_over Q Q' like' (suc n) s x h k e p =
      let t : ℕ = p.0 in
      elim (ℕ_discrete (c t) (c s)) [
        | yes same ↦ until_over Q Q' like' n t x p.2.2 k (same ∙ e) p.3
        | no other ↦
            let l = F.leaves s x h k e (c t) other (s, t, 0, (refl, refl), p.2, refl) in
            let r = until_over Q Q' like' n t l.1 p.2.2 l.4.2 (sym l.5) p.3 in
            until_behind X.frame P' Q' l.2 r.0 x l.0 l.1
            (trail_map X.frame (Fellow d x) P' (λ w b f. like s w h b (e ∙ sym f) p.1) l.2 x l.0 k l.3) l.4 r.1
      ]

  pub globally_over : (m s x : ℕ) → s < M.frame.size → x < X.frame.size → c s ≡ d x → ((n : ℕ) → Stays (Move M.frame) P n s) → Stays (Move X.frame) P' m x
  globally_over zero s x h k e p = like s x h k e (p zero)
  globally_over (suc m) s x h k e p =
      elim (scan M.frame c P (c s) M.frame.size s refl p) [
        | inl r ↦ stays_map X.frame (Fellow d x) P' over (suc m) x k (F.circles s x h k e (pump M.frame (Fellow c s) s h r) (suc m))
        | inr r ↦
            let v : ℕ = r.1 in
            let l = F.leaves s x h k e (c v) r.5 (r.0, v, r.2, r.3, r.4, refl) in
            let i = globally_over m v l.1 r.4.2 l.4.2 (sym l.5) r.6 in
            let b = trail_map X.frame (Fellow d x) P' over l.2 x l.0 k l.3 in
            stays_behind X.frame P' l.2 (suc m) x l.0 b (l.1, trail_last X.frame P' l.2 x l.0 b, l.4, i)
      ]
    where
      over : (w : ℕ) → w < X.frame.size → Fellow d x w → P' w
      over w b f = like s w h b (e ∙ sym f) (p zero)

pub agree : (M : Kripke) (c : ℕ → ℕ) (X : Kripke) (d : ℕ → ℕ) → Similar M c X d → (f : Formula) →
    (s x : ℕ) → s < M.frame.size → x < X.frame.size → c s ≡ d x → Holds M f s ↔ Holds X f x
agree M c X d S top s x h k e = (λ _. tt, λ _. tt)
agree M c X d S (word a) s x h k e = (λ p. sym (S.0.says s x h k e a) ∙ p, λ p. S.0.says s x h k e a ∙ p)
agree M c X d S (neg f) s x h k e =
    let i = agree M c X d S f s x h k e in
    (λ n p. n (i.1 p), λ n p. n (i.0 p))
agree M c X d S (or f g) s x h k e =
    let i = agree M c X d S f s x h k e in
    let j = agree M c X d S g s x h k e in
    (elim [ inl p ↦ inl (i.0 p) | inr p ↦ inr (j.0 p) ], elim [ inl p ↦ inl (i.1 p) | inr p ↦ inr (j.1 p) ])
agree M c X d S (until f g) s x h k e = (
  λ p. until_over M c X d S.0 (Holds M f) (Holds X f) (λ s x h k e. (agree M c X d S f s x h k e).0)
      (Holds M g) (Holds X g) (λ s x h k e. (agree M c X d S g s x h k e).0) p.0 s x h k e p.1,
  λ p. until_over X d M c S.1 (Holds X f) (Holds M f) (λ x s k h e. (agree M c X d S f s x h k (sym e)).1)
      (Holds X g) (Holds M g) (λ x s k h e. (agree M c X d S g s x h k (sym e)).1) p.0 x s k h (sym e) p.1,
)
agree M c X d S (globally f) s x h k e = (
  λ p. globally_over M c X d S.0 (Holds M f) (Holds X f) (λ s x h k e. (agree M c X d S f s x h k e).0)
      X.frame.size s x h k e (pump M.frame (Holds M f) s h p),
  λ p. globally_over X d M c S.1 (Holds X f) (Holds M f) (λ x s k h e. (agree M c X d S f s x h k (sym e)).1)
      M.frame.size x s k h (sym e) (pump X.frame (Holds X f) x k p),
)
