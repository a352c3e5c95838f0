-- The reduced model is similar to the model that it folds, so it stands for it; and no smaller model does.
use Rattle.std.proofs.Common.{◌≡◌, ℕ, zero, suc, ◌<◌, ◌≤◌, length, get_or, sym, refl, ap, ◌∙◌, subst, inl, inr, arith}
use native.Mathlib.Decide.{ℕ_discrete}
use Rattle.kripke.specs.Models.{Frame, Kripke, WellFormed, nowhere, Total}
use Rattle.kripke.specs.Paths.{Move, Stays}
use Rattle.kripke.specs.Formulas.{Holds, Agree}
use Rattle.kripke.specs.Relation.{Related, Stable}
use Rattle.kripke.proofs.Similar.{Folds, Fellow, Circles, Follows, Similar}
use Rattle.kripke.specs.Numbering.{Ranked, Numbering}
use Rattle.kripke.specs.Reduced.{Reduces, StandsFor, Smallest}
use Rattle.kripke.proofs.Paths.{trail_last}
use Rattle.kripke.proofs.Cycle.{pump}
use Rattle.kripke.proofs.Agreement.{scan, agree}
use Rattle.kripke.proofs.Counting.{pigeons, chosen}
use Rattle.kripke.proofs.Ranking.{first_member}
use Rattle.kripke.proofs.Stability.{stable_follows, loop_circles, next_leaves, leaves_next}
use Rattle.kripke.proofs.Telling.{parted}

move_at : (F : Frame) (i j k l : ℕ) → i ≡ k → j ≡ l → Move F i j → Move F k l
move_at F i j k l p q m = subst (λ w. Move F w l) p (subst (λ w. Move F i w) q m)

-- a state that moves to itself can do so as often as it likes
rounds : (F : Frame) (x : ℕ) → Move F x x → Circles F (λ i. i) x
rounds F x m zero = refl
rounds F x m (suc n) = (x, refl, m, rounds F x m n)

-- in a total model each state has arbitrarily long paths
pub ever : (F : Frame) → Total F → (n s : ℕ) → s < F.size → Stays (Move F) (λ _. Unit {0}) n s
ever F total zero s h = tt
ever F total (suc n) s h =
    let b = (total s h).some in
    let t : ℕ = get_or (F.row s) 0 nowhere in
    let k = (total s h).lands 0 b in
    (t, tt, (0, h, k, b, refl), ever F total n t k)

module _ (M : Kripke) (c : ℕ → ℕ) (m : ℕ) (R : Kripke) (ranked : Ranked M.frame.size c m) (folds : Folds M c m R) where
  pub folded_follows : Follows M c R (λ i. i)
  folded_follows =
      record {
        says = λ s x h k e a. sym (folds.says s h a) ∙ ap (λ (y : ℕ). R.labels.words y a) e;
        leaves = λ s x h k e i other l.
            let b = ranked.below l.1 l.4.2 in
            let j : i < m = rw l.5 at b in
            (x, i, 0, (refl, refl), move_at R.frame (c s) i x i e refl ((folds.goes s i h j other).1 l), refl);
        circles = λ s x h k e p. rounds R.frame x (move_at R.frame (c s) (c s) x x e e ((folds.turns s h).1 p));
      }

  pub follows_folded : Follows R (λ i. i) M c
  follows_folded =
      record {
        says = λ x s k h e a. ap (λ (y : ℕ). R.labels.words y a) e ∙ folds.says s h a;
        leaves = λ x s k h e i other l.
            let b = l.4.2 in
            let j : i < m = rw (l.5, folds.sized) at b in
            let at : l.0 ≡ x = trail_last R.frame (λ w. w ≡ x) l.2 x l.0 l.3 in
            (folds.goes s i h j (λ q. other (q ∙ sym e))).0 (move_at R.frame l.0 l.1 (c s) i (at ∙ e) l.5 l.4);
        circles = λ x s k h e p.
            let q = p 1 in
            (folds.turns s h).0 (move_at R.frame x q.0 (c s) (c s) e (q.3 ∙ e) q.2);
      }

  pub folded_similar : Similar M c R (λ i. i)
  folded_similar = (folded_follows, follows_folded)

  -- each class has a move
  folded-moves : Total M.frame → (s : ℕ) → s < M.frame.size → 0 < length (R.frame.row (c s))
  folded-moves total s h =
      elim (scan M.frame c (λ _. Unit {0}) (c s) M.frame.size s refl (λ n. ever M.frame total n s h)) [
        | inl p ↦ let q = (folds.turns s h).1 (pump M.frame (Fellow c s) s h p) in omega (arith, q.3)
        | inr l ↦
            let b = ranked.below l.1 l.4.2 in
            let q = (folds.goes s (c l.1) h b l.5).1 (l.0, l.1, l.2, l.3, l.4, refl) in omega (arith, q.3)
      ]

  pub folded_total : Total M.frame → Total R.frame
  folded_total total i h =
      record {
        some =
            let k : i < m = rw folds.sized at h in
            let s = ranked.member i k in
            subst (λ w. 0 < length (R.frame.row w)) s.2 (folded-moves total s.0 s.1);
        lands = λ k b. rw folds.sized (folds.lands i k (rw folds.sized at h) b);
      }

  pub folded_agrees : (s : ℕ) → s < M.frame.size → (c s < R.frame.size) × Agree M s R (c s)
  folded_agrees s h =
      let k : c s < R.frame.size = rw folds.sized (ranked.below s h) in
      (k, λ f. agree M c R (λ i. i) folded_similar f s (c s) h k refl)

-- a state of X that agrees with a member of the class i
abbrev Voice : Kripke → (ℕ → ℕ) → Kripke → ℕ → ℕ → Type 0
Voice M c X i x = (s : ℕ) × (s < M.frame.size) × (c s ≡ i) × (x < X.frame.size) × Agree M s X x

module _ (M : Kripke) (formed : WellFormed M) (r m : ℕ) (c : ℕ → ℕ) (N : Numbering (Related M r) M.frame.size c m) (X : Kripke) where
  -- states of M with the same voice have the same class
  one-voice : (i j x y : ℕ) → Voice M c X i x → Voice M c X j y → x ≡ y → i ≡ j
  one-voice i j x y p q e =
      elim (ℕ_discrete i j) [
        | yes same ↦ same
        | no other ↦
            let apart = λ (rel : Related M r p.0 q.0). other (sym p.2 ∙ (N.same p.0 q.0 p.1 q.1).1 rel ∙ q.2) in
            let f = parted M formed r p.0 q.0 p.1 q.1 apart in
            absurd (f.3 ((q.4 f.0).1 (subst (λ w. Holds X f.0 w) e ((p.4 f.0).0 f.2))))
      ]

  -- no model with fewer states than there are classes can stand for M
  pub fewest : StandsFor X M → m ≤ X.frame.size
  fewest stands =
      let voice = chosen m (Voice M c X) (λ i h.
      let s = N.ranked.member i h in
      let x = stands.1 s.0 s.1 in
      (x.0, (s.0, s.1, s.2, x.1, x.2))) in
      pigeons X.frame.size m voice.0 (λ i h. (voice.1 i h).3)
      (λ i j h k e. one-voice i j (voice.0 i) (voice.0 j) (voice.1 i h) (voice.1 j k) e)

-- where one more round parts nothing, the reduced model folds: each member of a class does what all do
module _ (M : Kripke) (r m : ℕ) (c : ℕ → ℕ) (R : Kripke) (stable : Stable M r) (N : Numbering (Related M r) M.frame.size c m)
    (reduces : Reduces M (Related M r) c m R) where
  pub reduces_folds : Folds M c m R
  reduces_folds = record {
    sized = reduces.sized;
    says = λ s h a.
        let t = first_member M.frame.size m c N.ranked (c s) (N.ranked.below s h) in
        reduces.says (c s) t.0 t.1 a ∙ follows.says t.0 s t.1.state h t.1.has a;
    goes = λ s j h b other.
        let g = reduces.goes (c s) j (N.ranked.below s h) b other in (
          (λ p.
              let x = g.0 p in
              let l = next_leaves M.frame (Related M r) c N.same x.0 x.2 x.1 x.4 in
              follows.leaves x.0 s x.2 h x.3 j (λ e. other (e ∙ x.3))
              (l.0, l.1, l.2, l.3, l.4, l.5 ∙ x.5)),
          (λ l.
              let v = leaves_next M.frame (Related M r) c N.same s h j other l in
              g.1 (s, v.0, h, refl, v.1, v.2)),
        );
    turns = λ s h.
        let g = reduces.turns (c s) (N.ranked.below s h) in (
          (λ p.
              let x = g.0 p in
              follows.circles x.0 s x.1 h x.2 ((loop_circles M.frame (Related M r) c N.same x.0 x.1).0 x.3)),
          (λ p. g.1 (s, h, refl, (loop_circles M.frame (Related M r) c N.same s h).1 p)),
        );
    lands = reduces.lands;
  }
    where
      follows : Follows M c M c
      follows = stable_follows M r c N.same stable

  pub reduced_agrees : (s : ℕ) → s < M.frame.size → (c s < R.frame.size) × Agree M s R (c s)
  reduced_agrees = folded_agrees M c m R N.ranked reduces_folds

  pub reduced_smallest : WellFormed M → Total M.frame → Smallest R M
  reduced_smallest formed total = (
    (folded_total M c m R N.ranked reduces_folds total, λ s h. let a = reduced_agrees s h in (c s, a.0, a.1)),
    λ Y stands. rw reduces.sized (fewest M formed r m c N Y stands),
  )
