-- What the search has found of rows, and that they are the components of a model where the rows are its moves between alike states.
use Rattle.std.proofs.Common.{◌≡◌, ℕ, zero, suc, ◌<◌, ◌≤◌, true, ◌↔◌, List, length, take, Ok, Err, Result, sym, refl, ap, ◌∙◌, subst, arith}
use Rattle.sets.specs.declared.Set.{Set}
use Rattle.sets.specs.Sets.{none}
use Rattle.std.proofs.lemmas.List.{length-take-le, get_or-take}
use Rattle.kripke.specs.Models.{Frame, Kripke, Alike}
use Rattle.kripke.specs.Equivalence.{Equivalence}
use Rattle.kripke.specs.Numbering.{Numbering}
use Rattle.kripke.specs.Paths.{Move, Trail}
use Rattle.kripke.specs.Relation.{ST}
use Rattle.kripke.specs.Components.{Components, Cyclic, numbered}
use Rattle.kripke.proofs.Counting.{pigeons, chosen}
use Rattle.kripke.proofs.Paths.{trail_first}
use Rattle.kripke.proofs.Rounds.{st_own, st_more, st_join, alike_equivalence}
use Rattle.kripke.proofs.Components.{Mutual, mutual_components, numbered-part, part-numbered, cyclic_move}
use Rattle.components.specs.Reach.{Leads, stop, go}
use Rattle.components.specs.Rows.{row_at, Edge, Both}
use Rattle.components.specs.Alike.{AlikeMoves}
use Rattle.components.specs.Search.{Searched}
use Rattle.components.specs.Numbers.{number, Numbered}
use Rattle.components.specs.Found.{Refuses, Room, Ordered, Finds, FindsIn, Answers, AnswersIn}
use Rattle.components.specs.declared.Found.{Found}
use Rattle.components.specs.declared.Refused.{Refused}
use Rattle.components.specs.declared.marks.Walk.{Walk}
use Rattle.components.specs.declared.search.Search.{Search}

-- the numbers by first member in the order in which the components were closed
module _ (rows : List Set) (S : Search) (D : Searched rows S) (part part' : List ℕ) (found : Found)
    (N : Numbered S.component S.cyclic (length rows) part part' found) where
  -- two states whose components stand at one place are of one component
  same-place : (s t : ℕ) → s < length rows → t < length rows → number part' s ≡ number part' t → number S.component s ≡ number S.component t
  same-place s t ls lt e = (N.numbering.same s t ls lt).0 e

  -- there are as many numbers by first member as by closing
  as-many : S.count ≡ found.count
  as-many =
      let of : (f : ℕ → ℕ) × ((d : ℕ) → d < S.count → (f d < length rows) × (number S.component (f d) ≡ d)) =
      chosen S.count (λ d s. (s < length rows) × (number S.component s ≡ d)) (λ d l. let u = D.used d l in (u.0, (u.1, u.2))) in
      let to : (f : ℕ → ℕ) × ((i : ℕ) → i < found.count → (f i < length rows) × (number part' (f i) ≡ i)) =
      chosen found.count (λ i s. (s < length rows) × (number part' s ≡ i)) (λ i l. let u = N.numbering.ranked.member i l in (u.0, (u.1, u.2))) in
      let a = pigeons found.count S.count (λ d. number part' (of.0 d)) (λ d l. N.numbering.ranked.below (of.0 d) (of.1 d l).0)
      (λ d e l m q. sym (of.1 d l).1 ∙ same-place (of.0 d) (of.0 e) (of.1 d l).0 (of.1 e m).0 q ∙ (of.1 e m).1) in
      let b = pigeons S.count found.count (λ i. number S.component (to.0 i)) (λ i l. D.below (to.0 i) (to.1 i l).0)
      (λ i j l m q. sym (to.1 i l).1 ∙ (N.numbering.same (to.0 i) (to.0 j) (to.1 i l).0 (to.1 j m).0).1 q ∙ (to.1 j m).1) in
      omega arith

  -- the place of a state's component is the number by closing
  place : (c s : ℕ) → c < found.count → s < length rows → number found.order c ≡ number part' s → number S.component s ≡ c
  place c s l ls e =
      let u = D.used c (omega (arith, as-many)) in
      same-place s u.0 ls u.1 (sym e ∙ sym (ap (number found.order) u.2) ∙ N.order u.0 u.1) ∙ u.2

  ordered : Ordered (Edge rows) (length rows) part' found.count found.order
  ordered = record {
    low = λ c l.
        let u = D.used c (omega (arith, as-many)) in
        subst (λ x. x < found.count) (sym (N.order u.0 u.1) ∙ ap (number found.order) u.2) (N.numbering.ranked.below u.0 u.1);
    each = λ s l. (number S.component s, omega (arith, as-many, D.below s l), N.order s l);
    later = λ s t c d e lc ld a b. omega (arith, D.later s t e, place c s lc e.0 a, place d t ld e.1 b);
  }

-- numbers by first member for what was searched
pub finds_in : (rows : List Set) (S : Search) → Searched rows S → (part part' : List ℕ) (found : Found) →
    Numbered S.component S.cyclic (length rows) part part' found → FindsIn rows part part' found
finds_in rows S D part part' found N = record {
  numbering = record {
    ranked = N.numbering.ranked;
    same = λ s t ls lt. (
      (λ e. (D.same s t ls lt).0 ((N.numbering.same s t ls lt).0 e)),
      (λ p. (N.numbering.same s t ls lt).1 ((D.same s t ls lt).1 p)),
    );
  };
  cyclic = λ i. (
    (λ h.
        let p = (N.cyclic i).0 h in
        let q = (D.cyclic (number S.component p.0)).0 p.3 in
        let e : number part' q.0 ≡ i = (N.numbering.same q.0 p.0 q.2.0 p.1).1 q.3 ∙ p.2 in
        (q.0, q.1, q.2, e, (N.numbering.same q.1 p.0 q.2.1 p.1).1 q.4 ∙ p.2)),
    (λ p.
        let same : number S.component p.1 ≡ number S.component p.0 = (N.numbering.same p.1 p.0 p.2.1 p.2.0).0 (p.4 ∙ sym p.3) in
        (N.cyclic i).1 (p.0, p.2.0, p.3, (D.cyclic (number S.component p.0)).1 (p.0, p.1, p.2, refl, same))),
  );
  rest = N.rest;
  order = ordered rows S D part part' found N;
}

-- the rows are those of the states of M, each with its moves to alike states
module _ (M : Kripke) (rows : List Set) (long : length rows ≡ M.frame.size) (alike : (s : ℕ) → s < M.frame.size → AlikeMoves M s (row_at rows s)) where
  abbrev F : Frame
  F = M.frame

  E : Equivalence M.frame.size (Alike M)
  E = alike_equivalence M

  edge-move : (s t : ℕ) → Edge rows s t → Alike M s t × Move F s t
  edge-move s t e = (alike s (omega (arith, e.0, long)) t).0 e.2

  move-edge : (s t : ℕ) → Move F s t → Alike M s t → Edge rows s t
  move-edge s t m near = (omega (arith, m.1, long), omega (arith, m.2, long), (alike s m.1 t).1 (near, m))

  -- moves of rows lead wherever ST does
  leads-st : (t s : ℕ) → s < F.size → Leads (Edge rows) s t → ST F (Alike M) s t
  leads-st t s state stop = st_own F (Alike M) E s state
  leads-st t s state (go {u = u} e p) =
      let m = edge-move s u e in
      st_join F (Alike M) E s u t (st_more F (Alike M) E s s u (st_own F (Alike M) E s state) m.1 m.0) (leads-st t u m.0.1 p)

  trail-leads : (n a s t : ℕ) → Trail (Move F) (Alike M a) n s t → Leads (Edge rows) s t
  trail-leads zero a s t p = subst (λ x. Leads (Edge rows) s x) p.0 stop
  trail-leads (suc n) a s t p =
      let near : Alike M s p.0 = E.join s a p.0 (E.turn a s p.1) (trail_first F (Alike M a) n p.0 t p.3) in
      go (move-edge s p.0 p.2 near) (trail-leads n a p.0 t p.3)

  ways : (s t : ℕ) → s < F.size → t < F.size → Both rows s t ↔ Mutual F (Alike M) s t
  ways s t ls lt = (
    λ p. (leads-st t s ls p.0, leads-st s t lt p.1),
    λ m. (trail-leads m.0.0 s s t m.0.1, trail-leads m.1.0 t t s m.1.1),
  )

  module _ (part part' : List ℕ) (found : Found) (I : FindsIn rows part part' found) where
    N : Numbering (Both rows) F.size (number part') found.count
    N = subst (λ n. Numbering (Both rows) n (number part') found.count) long I.numbering

    K : Components F (Alike M) (number part') found.count
    K = mutual_components F (Alike M) E (number part') found.count (record {
      ranked = N.ranked;
      same = λ s t ls lt. (
        (λ e. (ways s t ls lt).0 ((N.same s t ls lt).0 e)),
        (λ m. (N.same s t ls lt).1 ((ways s t ls lt).1 m)),
      );
    })

    -- a move between states of one number is one of their component
    round : (i s t : ℕ) → Edge rows s t → number part' s ≡ i → number part' t ≡ i → Cyclic F (numbered F (number part') i)
    round i s t e a b =
        let m = (edge-move s t e).1 in
        let small : i < found.count = subst (λ x. x < found.count) a (N.ranked.below s m.1) in
        (cyclic_move F (Alike M) (numbered F (number part') i) (K.each i small).joined).1
        (s, t, m, part-numbered F (number part') i s m.1 a, part-numbered F (number part') i t m.2 b)

    turn : (i : ℕ) → Cyclic F (numbered F (number part') i) → (s t : ℕ) × Edge rows s t × (number part' s ≡ i) × (number part' t ≡ i)
    turn i c =
        let s : ℕ = c.0 in
        let p = c.2 in
        let t : ℕ = p.0 in
        let on = trail_first F (λ u. numbered F (number part') i u ≡ true) c.1 t s p.3 in
        let a = numbered-part F (number part') i s p.1 in
        let b = numbered-part F (number part') i t on in
        let small : i < found.count = subst (λ x. x < found.count) a.1 (N.ranked.below s a.0) in
        (s, t, move-edge s t p.2 ((K.each i small).joined.related s t p.1 on), a.1, b.1)

    pub finds : Finds M part part' found
    finds = record {
      components = K;
      cyclic = λ i. (
        (λ h. let p = (I.cyclic i).0 h in round i p.0 p.1 p.2 p.3 p.4),
        (λ c. (I.cyclic i).1 (turn i c)),
      );
      rest = λ s l. I.rest s (omega (arith, l, long));
      order = record {
        low = I.order.low;
        each = λ s l. I.order.each s (omega (arith, l, long));
        later = λ s t c d e. I.order.later s t c d (move-edge s t e.1 e.0);
      };
    }

  -- the answer of a search of these rows is the answer of one of M
  pub answers : (walks walks' : List Walk) (states states' part part' : List ℕ) (r : Result Found Refused) →
      AnswersIn rows walks walks' states states' part part' r → Answers M walks walks' states states' part part' r
  answers walks walks' states states' part part' (Ok found) a =
      (subst (λ n. Room n (length walks) (length states)) long a.0, finds part part' found a.1)
  answers walks walks' states states' part part' (Err why) a =
      (subst (λ n. Refuses why n (length walks) (length states)) long a.0, a.1, a.2, a.3)

-- the rows of a table's front
pub answers_front : (M : Kripke) (rows : List Set) (n : ℕ) → n ≡ M.frame.size → n ≤ 128 → length rows ≡ 128 →
    ((s : ℕ) → s < M.frame.size → AlikeMoves M s (row_at rows s)) → (walks walks' : List Walk) (states states' part part' : List ℕ) (r : Result Found Refused) →
    AnswersIn (take n rows) walks walks' states states' part part' r → Answers M walks walks' states states' part part' r
answers_front M rows n same few wide alike = answers M (take n rows)
    (length-take-le n rows (omega arith) ∙ same)
    (λ s l. subst (AlikeMoves M s) (sym (get_or-take n rows s none (omega arith))) (alike s l))
