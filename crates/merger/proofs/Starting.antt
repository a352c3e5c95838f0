-- The tables as an open leaves them hold C_0, and ST of the first round.
use Rattle.std.proofs.Common.{◌≡◌, ℕ, zero, suc, ◌<◌, false, ltb, ◌↔◌, List, length, sym, refl, ap, ◌∙◌, subst, inl, inr, arith}
use Rattle.std.proofs.lemmas.Bool.{both_ways, cond-true, lt-ltb}
use Rattle.kripke.specs.Words.{SameWords}
use Rattle.kripke.specs.Models.{Kripke, WellFormed, Alike, words_at}
use Rattle.kripke.specs.Components.{Components}
use Rattle.survey.specs.Gaps.{Gaps, Sized, Linked}
use Rattle.survey.specs.declared.gaps.Gap.{Gap}
use Rattle.survey.specs.declared.gaps.Gap.TheVariants.{NoStates, TooMany, EmptyRow, Nowhere}
use Rattle.merger.specs.Tells.{AfterScratch}
use Rattle.sets.specs.declared.Set.{Set}
use Rattle.kripke.specs.Paths.{Move, Trail}
use Rattle.kripke.specs.Relation.{ST, Related}
use Rattle.kripke.specs.Numbering.{Numbering}
use Rattle.kripke.proofs.Paths.{trail_first}
use Rattle.kripke.proofs.Ranking.{ranked_two}
use Rattle.kripke.proofs.Rounds.{st_own, st_related, st_more, st_join, alike_equivalence}
use Rattle.sets.specs.Sets.{In}
use Rattle.merger.specs.declared.tables.Found.{Found}
use Rattle.merger.specs.declared.tables.Rounds.{Rounds}
use Rattle.merger.specs.declared.partition.Partition.{Partition}
use Rattle.merger.specs.Grids.{at, set_at}
use Rattle.merger.specs.Tables.{part, class_of, words_of, Passes}
use Rattle.components.specs.Alike.{AlikeMoves}
use Rattle.components.specs.Found.{FindsIn}
use Rattle.components.specs.declared.Found.{Found as Parts}
use Rattle.merger.specs.Starts.{Inner, Spoken, Sorted, Started}
use Rattle.merger.specs.Analysed.{Surveyed, Tabled}
use Rattle.merger.proofs.Moving.{part_st}

-- the words of one state of a component are those of all
pub spoken_words : (M : Kripke) → WellFormed M → (component facts : List ℕ) (count : ℕ) → Components M.frame (Alike M) (at component) count →
    (s : ℕ) → s < M.frame.size → Spoken M component facts M.frame.size (at component s) → SameWords (words_of (at facts (at component s))) (M.labels.words s)
spoken_words M formed component facts count K s h p a =
    let t : ℕ = p.0 in
    let near = st_related M.frame (Alike M) (alike_equivalence M) t s (part_st M formed (at component) count K 0 t s p.1 h p.2) in
    p.3 a ∙ cond-true (ltb t M.frame.size) (M.labels.words t a) false (lt-ltb t M.frame.size p.1) ∙ near.2 a

-- P has the states of one set of words together: then the moves inside its classes are those between alike states
pub linked_alike : (M : Kripke) (rows : List Set) → Linked M.frame rows → (facts : List ℕ) →
    ((s : ℕ) → s < M.frame.size → SameWords (words_of (at facts s)) (words_at M s)) → (P : Partition) (n : ℕ) → n ≡ M.frame.size → P.len ≡ n →
    Numbering (λ s t. SameWords (words_of (at facts s)) (words_of (at facts t))) n (at P.class) P.classes → (alike : List Set) →
    ((s t : ℕ) → s < P.len → In (set_at alike s) t ↔ (In (set_at rows s) t × (t < P.len) × (at P.class t ≡ at P.class s))) →
    (s : ℕ) → s < M.frame.size → AlikeMoves M s (set_at alike s)
linked_alike M rows L facts told P n size len numbers alike is s h t =
    let words = λ (u : ℕ) (l : u < M.frame.size) (a : ℕ). told u l a ∙ cond-true (ltb u M.frame.size) (M.labels.words u a) false (lt-ltb u M.frame.size l) in
    let in-row = is s t (omega arith) in (
      (λ i.
          let p = in-row.0 i in
          let l : t < M.frame.size = omega (arith, p.1) in
          let same = (numbers.same s t (omega arith) (omega arith)).0 (sym p.2) in
          ((h, l, λ a. sym (words s h a) ∙ same a ∙ words t l a), (L.states s h t).0 p.0)),
      (λ p. in-row.1 (
        (L.states s h t).1 p.1,
        omega (arith, p.0.1),
        sym ((numbers.same s t (omega arith) (omega (arith, p.0.1))).1 (λ a. words s h a ∙ p.0.2 a ∙ sym (words t p.0.1 a))),
      )),
    )

-- P has the states in their components, as `component` numbers them
module _ (M : Kripke) (P : Partition) (component : List ℕ) (sized : P.len ≡ M.frame.size) (same : (s : ℕ) → s < M.frame.size → at P.class s ≡ at component s) where
  pub spoken_there : (facts : List ℕ) (s : ℕ) → s < M.frame.size → Spoken M P.class facts P.len (at P.class s) → Spoken M component facts M.frame.size (at component s)
  spoken_there facts s h p = (
    p.0,
    omega (arith, p.1),
    sym (same p.0 (omega (arith, p.1))) ∙ p.2 ∙ same s h,
    subst (λ k. SameWords (words_of (at facts k)) (words_at M p.0)) (same s h) p.3,
  )

  -- moves taken from rows of sets are the moves of the frame
  pub linked_passes : (rows : List Set) → Linked M.frame rows → (k l : ℕ) →
      ((s t : ℕ) × (s < P.len) × In (set_at rows s) t × (at P.class s ≡ k) × (at P.class t ≡ l)) ↔ Passes M.frame (at component) k l
  linked_passes rows L k l = (
    (λ p.
        let h : p.0 < M.frame.size = omega (arith, p.2) in
        let m = (L.states p.0 h p.1).0 p.3 in
        (p.0, p.1, m, sym (same p.0 h) ∙ p.4, sym (same p.1 m.2) ∙ p.5)),
    (λ p. (
      p.0,
      p.1,
      omega (arith, p.2.1),
      (L.states p.0 p.2.1 p.1).1 p.2,
      same p.0 p.2.1 ∙ p.3,
      same p.1 p.2.2 ∙ p.4,
    )),
  )

-- the components as the search puts them in order, each behind those that it moves to inside the alike states
pub sorted : (M : Kripke) (F : Found) → Surveyed M F → (rows : List Set) (part₀ : List ℕ) (parts : Parts) → FindsIn rows part₀ F.component parts →
    length rows ≡ M.frame.size → parts.count ≡ F.components → ((s : ℕ) → s < M.frame.size → AlikeMoves M s (set_at rows s)) → Sorted F parts.order
sorted M F S rows part₀ parts I long many alike = record {
  low = λ c l. subst (λ n. at parts.order c < n) many (I.order.low c (omega (arith, many)));
  each = λ k l.
      let s = S.components.ranked.member k l in
      let p = I.order.each s.0 (omega (arith, s.1, long)) in
      (p.0, omega (arith, p.1, many), p.2 ∙ s.2);
  later = λ k l c d m near lc ld e f.
      let low : k < F.components = subst (λ x. x < F.components) e (subst (λ n. at parts.order c < n) many (I.order.low c (omega (arith, many)))) in
      let p = (S.moves k l low).0 m in
      let s : ℕ = p.0 in
      let t : ℕ = p.1 in
      let like : Alike M s t = (
        p.2.1,
        p.2.2,
        λ a.
            sym (S.facts s p.2.1 a) ∙ ap (λ x. words_of (at F.facts x) a) p.3 ∙ near a ∙ sym (ap (λ x. words_of (at F.facts x) a) p.4) ∙ S.facts t p.2.2 a,
      ) in
      I.order.later s t c d (omega (arith, p.2.1, long), omega (arith, p.2.2, long), (alike s p.2.1 t).1 (like, p.2)) (omega (arith, many)) (omega (arith, many)) (e ∙ sym p.3) (f ∙ sym p.4);
}

module _ (M : Kripke) (F : Found) (S : Rounds) (O : Surveyed M F) (B : Started F S) where
  below : (s : ℕ) → s < M.frame.size → part F s < F.components
  below = O.components.ranked.below

  inside : (s : ℕ) → s < M.frame.size → part F s < S.partition.len
  inside s h = subst (λ n. part F s < n) (sym B.items) (below s h)

  same : (s t : ℕ) → s < M.frame.size → t < M.frame.size → (class_of F S s ≡ class_of F S t) ↔ Alike M s t
  same s t h k =
      let c = B.classes.same (part F s) (part F t) (below s h) (below t k) in (
        (λ e. (h, k, λ a. sym (O.facts s h a) ∙ c.0 e a ∙ O.facts t k a)),
        (λ p. c.1 (λ a. O.facts s h a ∙ p.2 a ∙ sym (O.facts t k a))),
      )

  abbrev Way : ℕ → ℕ → ℕ → Type 0
  Way n k l = Trail (Inner F.moves S.partition) (λ j. j < F.components) n k l

  -- from s inside its component, and on by one inner move
  step-st : (s k : ℕ) → s < M.frame.size → Inner F.moves S.partition (part F s) k →
      (t : ℕ) × (t < M.frame.size) × (part F t ≡ k) × ST M.frame (Alike M) s t
  step-st s k h p =
      elim p.3 [
        | inl e ↦ (s, h, sym e, st_own M.frame (Alike M) (alike_equivalence M) s h)
        | inr m ↦
            let o = (O.moves (part F s) k (below s h)).0 m in
            let u : ℕ = o.0 in
            let v : ℕ = o.1 in
            let go : Move M.frame u v = o.2 in
            let on = part_st M O.formed (part F) F.components O.components 0 s u h go.1 (sym o.3) in
            let near = (same s v h go.2).0 (p.2 ∙ ap (at S.partition.class) (sym o.4)) in
            (v, go.2, o.4, st_more M.frame (Alike M) (alike_equivalence M) s u v on go near)
      ]

  way-st : (n s t : ℕ) → s < M.frame.size → t < M.frame.size → Way n (part F s) (part F t) → ST M.frame (Alike M) s t
  way-st zero s t h k p = part_st M O.formed (part F) F.components O.components 0 s t h k p.0
  way-st (suc n) s t h k p =
      let o = step-st s p.0 h p.2 in
      let v : ℕ = o.0 in
      st_join M.frame (Alike M) (alike_equivalence M) s v t o.3
      (way-st n v t o.1 k (subst (λ j. Way n j (part F t)) (sym o.2) p.3))

  st-way : (s n u t : ℕ) → s < M.frame.size → u < M.frame.size → Trail (Move M.frame) (Alike M s) n u t → Way n (part F u) (part F t)
  st-way s zero u t h k p = (ap (part F) p.0, below u k)
  st-way s (suc n) u t h k p =
      let v : ℕ = p.0 in
      let m : Move M.frame u v = p.2 in
      let e = sym ((same s u h k).1 p.1) ∙ (same s v h m.2).1 (trail_first M.frame (Alike M s) n v t p.3) in (
        part F v,
        below u k,
        (inside u k, inside v m.2, e, inr ((O.moves (part F u) (part F v) (below u k)).1 (u, v, m, refl, refl))),
        st-way s n v t h m.2 p.3,
      )

  numbers : Numbering (Related M 0) M.frame.size (class_of F S) S.partition.classes
  numbers = record {
    ranked = ranked_two M.frame.size F.components S.partition.classes (part F) (at S.partition.class) O.components.ranked B.classes.ranked;
    same = same;
  }

  pub started : F.labels ≡ S.partition.classes → Tabled M 0 F S
  started e = record {
    surveyed = O;
    labels = (class_of F S, subst (λ m. Numbering (Related M 0) M.frame.size (class_of F S) m) (sym e) numbers);
    made = B.made;
    classes = numbers;
    items = B.items;
    reach = λ s t h k.
        let r = B.reach (part F s) (part F t) (below s h) in (
          (λ o. let w = r.0 o in way-st w.0 s t h k w.1),
          (λ p. r.1 (p.0, st-way s p.0 s t h h p.1)),
        );
    ended = λ e. absurd (both_ways _ B.settled e);
    going = λ e q h. absurd (omega arith);
  }

-- the tables that an open has found and started, with the classes of alike states counted
abbrev pub labelled : Found → ℕ → Found
labelled F h = record {
  states = F.states;
  words = F.words;
  components = F.components;
  labels = h;
  component = F.component;
  facts = F.facts;
  moves = F.moves;
}

pub begun : (M : Kripke) (F : Found) (S : Rounds) (h : ℕ) → h ≡ S.partition.classes → Surveyed M F → Started F S → Tabled M 0 (labelled F h) S
begun M F S h e O B = started M (labelled F h) S O' B' e
  where
    O' : Surveyed M (labelled F h)
    O' = record {
      formed = O.formed;
      admitted = O.admitted;
      states = O.states;
      words = O.words;
      facts = O.facts;
      components = O.components;
      moves = O.moves;
    }

    B' : Started (labelled F h) S
    B' = record { made = B.made; settled = B.settled; classes = B.classes; items = B.items; reach = B.reach }

-- a gap that is found before the rows are looked at
pub early : (M : Kripke) (walks states : ℕ) (gap : Gap) → Gaps M.frame gap → (Sized M.frame → ⊥) → AfterScratch M walks states gap
early M walks states NoStates g n = tt
early M walks states TooMany g n = tt
early M walks states (EmptyRow s) g n = absurd (n g.0)
early M walks states (Nowhere s k) g n = absurd (n g.0)
