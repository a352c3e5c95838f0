-- The row of a formula tells where it holds.
use Rattle.std.proofs.Common.{ℕ, zero, suc, ◌<◌, Bool, true, false, not, ◌&&◌, ◌||◌, ◌⊎◌, List, get_or, sym, refl, subst, inl, inr}
use Rattle.kripke.specs.Models.{Frame, Kripke}
use Rattle.kripke.specs.Paths.{Move, Until, Stays}
use Rattle.kripke.specs.Formulas.{Formula, top, word, neg, or, until, globally, Holds}
use Rattle.worked.specs.Tables.{any, grid, look}
use Rattle.worked.specs.Decisions.{moves, ways, ends, keeps, truth}
use Rattle.worked.proofs.Tests as tests
use Rattle.worked.proofs.Tests.{turned, both, refuted, tells_so, tells_any, Lists, Draws, lists, draws}
use Rattle.kripke.proofs.Roads.{Steps, Road}
use Rattle.worked.proofs.Closure.{draws_road}
use Rattle.worked.proofs.Relating.{draws_moves}

module _ (F : Frame) (P Q : ℕ → Type 0) (p q : List Bool) (t : Lists F.size p P) (u : Lists F.size q Q) where
  abbrev n : ℕ
  n = F.size

  abbrev Edge : ℕ → ℕ → Type 0
  Edge s t = P s × Move F s t

  draws-ways : Draws n (ways n (moves F) p) (Road Edge)
  unfolding ways
  draws-ways =
      draws_road n Edge (grid n (λ i j. get_or p i false && look (moves F) i j))
      (draws n Edge (λ i j. get_or p i false && look (moves F) i j) (λ i j h k. both (t i h) (draws_moves F i j h k)))
      (λ i j e. e.1.2)

  abbrev Ends : ℕ → Type 0
  Ends s = Q s ⊎ ((t : ℕ) × (t < n) × (Road Edge s t × Q t))

  steps-until : (k s t : ℕ) → Steps Edge k s t → Q t → Until (Move F) P Q k s
  steps-until zero s t e q = subst Q (sym e) q
  steps-until (suc k) s t e q = (e.0, e.1.0, e.1.1, steps-until k e.0 t e.2 q)

  until-steps : (k s : ℕ) → s < n → Until (Move F) P Q k s → (t : ℕ) × (t < n) × Steps Edge k s t × Q t
  until-steps zero s h e = (s, h, refl, e)
  until-steps (suc k) s h e =
      let r = until-steps k e.0 e.2.2 e.3 in
      (r.0, r.1, (e.0, (e.1, e.2), r.2), r.3)

  to-until : (s : ℕ) → Ends s → (k : ℕ) × Until (Move F) P Q k s
  to-until s (inl q) = (0, q)
  to-until s (inr (t, h, (r, q))) = (suc r.0, steps-until (suc r.0) s t r.1 q)

  from-until : (s : ℕ) → s < n → (k : ℕ) × Until (Move F) P Q k s → Ends s
  from-until s h (zero, e) = inl e
  from-until s h (suc k, e) = let r = until-steps (suc k) s h e in inr (r.0, r.1, ((k, r.2), r.3))

  lists-ends : Lists n (ends n (ways n (moves F) p) q) (λ s. (k : ℕ) × Until (Move F) P Q k s)
  unfolding ends
  lists-ends =
      let R = ways n (moves F) p in
      lists n (λ s. (k : ℕ) × Until (Move F) P Q k s) (λ s. get_or q s false || any n (λ t. look R s t && get_or q t false))
      (λ s h. turned (to-until s) (from-until s h)
      (tests.either (u s h) (tells_any n (λ t. Road Edge s t × Q t) (λ t. look R s t && get_or q t false)
      (λ t k. both (draws-ways s t h k) (u t k)))))

  pub lists_keeps : (k : ℕ) → Lists n (keeps n (moves F) p k) (Stays (Move F) P k)
  unfolding keeps
  lists_keeps zero = t
  lists_keeps (suc k) =
      let l = keeps n (moves F) p k in
      lists n (Stays (Move F) P (suc k)) (λ s. get_or p s false && any n (λ t. look (moves F) s t && get_or l t false))
      (λ s h. turned (λ e. (e.1.0, e.0, e.1.2.0, e.1.2.1)) (λ e. (e.1, (e.0, e.2.2, (e.2, e.3))))
      (both (t s h) (tells_any n (λ t. Move F s t × Stays (Move F) P k t) (λ t. look (moves F) s t && get_or l t false)
      (λ t k'. both (draws_moves F s t h k') (lists_keeps k t k')))))

pub lists_truth : (M : Kripke) (f : Formula) → Lists M.frame.size (truth M f) (Holds M f)
unfolding truth
lists_truth M top = lists M.frame.size (Holds M top) (λ s. true) (λ s h. tests.holds tt)
lists_truth M (word a) = lists M.frame.size (Holds M (word a)) (λ s. M.labels.words s a) (λ s h. tells_so (M.labels.words s a))
lists_truth M (neg f) =
    lists M.frame.size (Holds M (neg f)) (λ s. not (get_or (truth M f) s false)) (λ s h. refuted (lists_truth M f s h))
lists_truth M (or f g) =
    lists M.frame.size (Holds M (or f g)) (λ s. get_or (truth M f) s false || get_or (truth M g) s false)
    (λ s h. tests.either (lists_truth M f s h) (lists_truth M g s h))
lists_truth M (until f g) = lists-ends M.frame (Holds M f) (Holds M g) (truth M f) (truth M g) (lists_truth M f) (lists_truth M g)
lists_truth M (globally f) =
    lists_keeps M.frame (Holds M f) (Holds M f) (truth M f) (truth M f) (lists_truth M f) (lists_truth M f) M.frame.size
