-- The tables of a round tell ST, NEXT, LOOP and the next relation.
use Rattle.std.proofs.Common.{◌≡◌, ℕ, zero, suc, ◌<◌, Bool, false, not, ◌&&◌, ◌||◌, eqb, ◌⊎◌, List, [], ◌∷◌, get_or, sym, ◌∙◌, inl, inr, arith}
use mathlib.Core.Bool.{beq}
use native.Mathlib.Decide.{dec_lt}
use Rattle.kripke.specs.Models.{Frame, Kripke, WellFormed, Alike}
use Rattle.kripke.specs.Equivalence.{Equivalence}
use Rattle.kripke.specs.Paths.{Move, Trail}
use Rattle.kripke.specs.Relation.{ST, NEXT, LOOP, Matched, Refined, Related}
use Rattle.kripke.proofs.Paths.{trail_map, trail_first}
use Rattle.kripke.proofs.Rounds.{related_equivalence, st_related, st_more}
use Rattle.kripke.proofs.Roads.{Steps, Road}
use Rattle.kripke.proofs.Components.{Mutual}
use Rattle.kripke.proofs.Picking.{In}
use Rattle.worked.specs.Tables.{any, every, grid, look}
use Rattle.worked.specs.Decisions.{Table, among, moves, roads, reached, looped, nexts, near, matches, finer, round, spoken, alike, relation, inside, outside, loops, mutual?}
use Rattle.worked.proofs.Tests.{Tells, fails, turned, both, either, refuted, implies, equals, tells_bool, tells_eq, tells_any, tells_every, Lists, Draws, lists, draws, lines-look}
use Rattle.worked.proofs.Closure.{draws_road}

pub tells_among : (l : List ℕ) (t : ℕ) → Tells (In l t) (among l t)
unfolding among
tells_among [] t = fails (λ p. omega (arith, p.1))
tells_among (x ∷ xs) t = turned ahead back (either (tells_eq x t) (tells_among xs t))
  where
    ahead : (x ≡ t) ⊎ In xs t → In (x ∷ xs) t
    ahead (inl e) = (0, omega arith, e)
    ahead (inr p) = (suc p.0, omega (arith, p.1), p.2)

    back : In (x ∷ xs) t → (x ≡ t) ⊎ In xs t
    back (zero, h, e) = inl e
    back (suc k, h, e) = inr (k, omega arith, e)

pub draws_moves : (F : Frame) → Draws F.size (moves F) (Move F)
unfolding moves
draws_moves F =
    draws F.size (Move F) (λ s t. among (F.row s) t)
    (λ s t h k. turned (λ p. (p.0, h, k, p.1, p.2)) (λ p. (p.0, p.3, p.4)) (tells_among (F.row s) t))

-- over an equivalence C of states
module _ (F : Frame) (C : ℕ → ℕ → Type 0) (E : Equivalence F.size C) where
  abbrev Edge : ℕ → ℕ → Type 0
  Edge s t = C s t × Move F s t

  trail-steps : (s n u t : ℕ) → Trail (Move F) (C s) n u t → Steps Edge n u t
  trail-steps s zero u t p = p.0
  trail-steps s (suc n) u t p =
      (p.0, (E.join u s p.0 (E.turn s u p.1) (trail_first F (C s) n p.0 t p.3), p.2), trail-steps s n p.0 t p.3)

  steps-trail : (s n u t : ℕ) → C s u → Steps Edge n u t → Trail (Move F) (C s) n u t
  steps-trail s zero u t c p = (p, c)
  steps-trail s (suc n) u t c p = (p.0, c, p.1.1, steps-trail s n p.0 t (E.join s u p.0 c p.1.0) p.2)

  from-st : (s t : ℕ) → ST F C s t → (s ≡ t) ⊎ Road Edge s t
  from-st s t (zero, p) = inl p.0
  from-st s t (suc n, p) = inr (n, trail-steps s (suc n) s t p)

  to-st : (s t : ℕ) → s < F.size → (s ≡ t) ⊎ Road Edge s t → ST F C s t
  to-st s t h (inl e) = (0, (e, E.own s h))
  to-st s t h (inr p) = (suc p.0, steps-trail s (suc p.0) s t (E.own s h) p.1)

  -- a state in ST(s) with a road back to itself
  abbrev Ring : ℕ → Type 0
  Ring s = (x : ℕ) × (x < F.size) × (ST F C s x × Road Edge x x)

  abbrev here : (s t : ℕ) → ST F C s t → C s t
  here = st_related F C E

  from-loop : (s : ℕ) → LOOP F C s → Ring s
  from-loop s (x, n, p) = (
    x,
    p.2.1,
    (p.1, (n, trail-steps s (suc n) x x (trail_map F (ST F C s) (C s) (λ w _ q. here s w q) (suc n) x x p.2.1 p))),
  )

  on-inside : (s n u t : ℕ) → ST F C s u → Steps Edge n u t → Trail (Move F) (ST F C s) n u t
  on-inside s zero u t w p = (p, w)
  on-inside s (suc n) u t w p = (
    p.0,
    w,
    p.1.1,
    on-inside s n p.0 t
        (st_more F C E s u p.0 w p.1.1 (E.join s u p.0 (here s u w) p.1.0)) p.2,
  )

  to-loop : (s : ℕ) → Ring s → LOOP F C s
  to-loop s (x, h, (w, (n, p))) = (x, n, on-inside s (suc n) x x w p)

  module _ (m : Table) (t : Draws F.size m C) where
    abbrev n : ℕ
    n = F.size

    abbrev R : Table
    R = roads n (moves F) m

    abbrev W : Table
    W = reached n R

    abbrev X : Table
    X = nexts n (moves F) W

    abbrev Y : Table
    Y = near n X m

    abbrev Z : Table
    Z = matches n X Y

    draws-roads : Draws n R (Road Edge)
    unfolding roads
    draws-roads =
        draws_road n Edge (grid n (λ i j. look m i j && look (moves F) i j))
        (draws n Edge (λ i j. look m i j && look (moves F) i j) (λ i j h k. both (t i j h k) (draws_moves F i j h k)))
        (λ i j p. p.1.2)

    pub draws_reach : Draws n W (ST F C)
    unfolding reached
    draws_reach =
        draws n (ST F C) (λ i j. eqb i j || look R i j)
        (λ i j h k. turned (to-st i j h) (from-st i j) (either (tells_eq i j) (draws-roads i j h k)))

    pub lists_looped : Lists n (looped n R W) (LOOP F C)
    unfolding looped
    lists_looped =
        lists n (LOOP F C) (λ i. any n (λ x. look W i x && look R x x))
        (λ i h. turned (to-loop i) (from-loop i)
        (tells_any n (λ x. ST F C i x × Road Edge x x) (λ x. look W i x && look R x x)
        (λ x k. both (draws_reach i x h k) (draws-roads x x k k))))

    pub draws_nexts : Draws n X (NEXT F C)
    unfolding nexts
    draws_nexts =
        draws n (NEXT F C) (λ i j. not (look W i j) && any n (λ u. look W i u && look (moves F) u j))
        (λ i j h k. turned (λ p. (p.1.0, p.0, p.1.2.0, p.1.2.1)) (λ p. (p.1, (p.0, p.3.1, (p.2, p.3))))
        (both (refuted (draws_reach i j h k))
        (tells_any n (λ u. ST F C i u × Move F u j) (λ u. look W i u && look (moves F) u j)
        (λ u l. both (draws_reach i u h l) (draws_moves F u j l k)))))

    abbrev Near : ℕ → ℕ → Type 0
    Near j u = (v : ℕ) × (v < n) × (NEXT F C j v × C u v)

    draws-near : Draws n Y Near
    unfolding near
    draws-near =
        draws n Near (λ j u. any n (λ v. look X j v && look m u v))
        (λ j u h k. tells_any n (λ v. NEXT F C j v × C u v) (λ v. look X j v && look m u v)
        (λ v l. both (draws_nexts j v h l) (t u v k l)))

    draws-matches : Draws n Z (Matched F C)
    unfolding matches
    draws-matches =
        draws n (Matched F C) (λ i j. every n (λ u. not (look X i u) || look Y j u))
        (λ i j h k. turned
        (λ p u x. let y = p u x.3.2 x in (y.0, y.2.0, y.2.1))
        (λ p u l x. let y = p u x in (y.0, (E.members u y.0 y.2).1, (y.1, y.2)))
        (tells_every n (λ u. NEXT F C i u → Near j u) (λ u. not (look X i u) || look Y j u)
        (λ u l. implies (draws_nexts i u h l) (draws-near j u k l))))

    pub draws_round : Draws n (round n (moves F) m) (Refined F C)
    unfolding round finer
    draws_round =
        draws n (Refined F C)
        (λ i j. look m i j && (beq (get_or (looped n R W) i false) (get_or (looped n R W) j false) && (look Z i j && look Z j i)))
        (λ i j h k. turned (λ p. (p.0, p.1.0, p.1.1.0, p.1.1.1)) (λ p. (p.0, (p.1, (p.2, p.3))))
        (both (t i j h k) (both (equals (lists_looped i h) (lists_looped j k)) (both (draws-matches i j h k) (draws-matches j i k h)))))

module _ (M : Kripke) (formed : WellFormed M) where
  abbrev said : ℕ → ℕ → Bool
  said s a = look (spoken M) s a

  said-is : (s a : ℕ) → s < M.frame.size → a < M.labels.count → M.labels.words s a ≡ said s a
  unfolding spoken
  said-is s a h k = lines-look M.labels.count M.frame.size (λ s a. M.labels.words s a) s a h k

  draws-alike : Draws M.frame.size (alike M) (Alike M)
  unfolding alike
  draws-alike =
      draws M.frame.size (Alike M) (λ s t. every M.labels.count (λ a. beq (said s a) (said t a)))
      (λ s t h k. turned (λ p. (h, k, λ a. words s t h k p a (dec_lt a M.labels.count))) (λ p a l. sym (said-is s a h l) ∙ p.2 a ∙ said-is t a k l)
      (tells_every M.labels.count (λ a. said s a ≡ said t a) (λ a. beq (said s a) (said t a))
      (λ a _. tells_bool (said s a) (said t a))))
    where
      words : (s t : ℕ) → s < M.frame.size → t < M.frame.size → ((a : ℕ) → a < M.labels.count → said s a ≡ said t a) →
          (a : ℕ) → Dec (a < M.labels.count) → M.labels.words s a ≡ M.labels.words t a
      words s t h k p a (yes l) = said-is s a h l ∙ p a l ∙ sym (said-is t a k l)
      words s t h k p a (no o) = formed.labels.within s a (omega arith) ∙ sym (formed.labels.within t a (omega arith))

  pub draws_relation : (r : ℕ) → Draws M.frame.size (relation M r) (Related M r)
  unfolding relation
  draws_relation zero = draws-alike
  draws_relation (suc r) = draws_round M.frame (Related M r) (related_equivalence M r) (relation M r) (draws_relation r)

  pub draws_inside : (r : ℕ) → Draws M.frame.size (inside M r) (ST M.frame (Related M r))
  unfolding inside
  draws_inside r = draws_reach M.frame (Related M r) (related_equivalence M r) (relation M r) (draws_relation r)

  pub draws_outside : (r : ℕ) → Draws M.frame.size (outside M r) (NEXT M.frame (Related M r))
  unfolding outside inside
  draws_outside r = draws_nexts M.frame (Related M r) (related_equivalence M r) (relation M r) (draws_relation r)

  pub lists_loops : (r : ℕ) → Lists M.frame.size (loops M r) (LOOP M.frame (Related M r))
  unfolding loops inside
  lists_loops r = lists_looped M.frame (Related M r) (related_equivalence M r) (relation M r) (draws_relation r)

  pub draws_mutual : Draws M.frame.size (mutual? M) (Mutual M.frame (Alike M))
  unfolding mutual?
  draws_mutual =
      draws M.frame.size (Mutual M.frame (Alike M)) (λ i j. look (inside M 0) i j && look (inside M 0) j i)
      (λ i j h k. both (draws_inside 0 i j h k) (draws_inside 0 j i k h))
