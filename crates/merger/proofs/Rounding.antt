-- One more round, on the tables and in the model.
use Rattle.std.proofs.Common.{◌≡◌, ℕ, suc, ◌+◌, ◌<◌, ◌≤◌, true, false, ◌⊎◌, ◌↔◌, sym, refl, ap, ◌∙◌, subst, inl, inr, ⊎_elim, arith}
use mathlib.Core.Logic.{∥∥₁_elim, ∥∥₁_map}
use mathlib.Core.HLevel.{⊥_prop}
use Rattle.std.proofs.lemmas.Bool.{cases_Bool, cases_eq, both_ways}
use Rattle.kripke.specs.Models.{Kripke}
use Rattle.kripke.specs.Relation.{Related, Settles}
use Rattle.kripke.specs.Numbering.{Numbering}
use Rattle.kripke.proofs.Ranking.{ranked_two, ranked_few}
use Rattle.kripke.proofs.Rounds.{related_equivalence, st_related, st_narrows}
use Rattle.kripke.proofs.Settling.{same_stable, unsettled_next}
use Rattle.kripke.proofs.Claims.{rounds_settle, settled_once}
use Rattle.merger.specs.declared.tables.Found.{Found}
use Rattle.merger.specs.declared.tables.Rounds.{Rounds}
use Rattle.merger.specs.Grids.{at}
use Rattle.merger.specs.Reaching.{On}
use Rattle.merger.specs.Tables.{part, class_of, words_of, Bounded, Advanced}
use Rattle.merger.specs.Analysed.{Unsettled, Surveyed, Tabled}
use Rattle.merger.proofs.Moving.{round_parts}

-- the settling round comes after the rounds that part something
pub settles_after : (M : Kripke) (r z : ℕ) → Unsettled M r → Settles M z → r < z
settles_after M r z u b = let l : b.0 < r → ⊥ = λ l. u b.0 l b.2 in omega (arith, b.1)

-- where the tables stand against the settling round
pub stands_at : (M : Kripke) (r z : ℕ) (F : Found) (S : Rounds) → Tabled M r F S → Settles M z →
    ((S.settled ≡ true) × (r ≡ z)) ⊎ ((S.settled ≡ false) × (r < z))
stands_at M r z F S A s = ⊎_elim
    (λ e. inl (e, settled_once M r z (A.ended e) s))
    (λ e. inr (e, settles_after M r z (A.going e) s))
    (cases_Bool S.settled)

-- some round settles
pub settling : (M : Kripke) (F : Found) → Surveyed M F → (z : ℕ) × (z ≤ 128) × Settles M z
settling M F O =
    let w = rounds_settle M O.formed O.admitted.0.0 in
    let few = O.admitted.0.1 in
    (w.0, omega (arith, w.1), w.2)

module _ (M : Kripke) (r : ℕ) (F : Found) (S : Rounds) (A : Tabled M r F S) where
  O : Surveyed M F
  O = A.surveyed

  pub below : (s : ℕ) → s < M.frame.size → part F s < F.components
  below = O.components.ranked.below

  -- a component has a state
  pub state_of : (k : ℕ) → k < F.components → (s : ℕ) × (s < M.frame.size) × (part F s ≡ k)
  state_of = O.components.ranked.member

  -- the tables of a model stand within their bounds
  pub tabled_bounded : Bounded F S
  tabled_bounded =
      let few = ranked_few M.frame.size F.components (part F) O.components.ranked in
      let some = ranked_few M.frame.size S.partition.classes (class_of F S) A.classes.ranked in
      let small = O.admitted.0.1 in
      let e = O.states in
      let z = settling M F O in
      record {
        wide = omega arith;
        parts = λ s h. below s (omega arith);
        room = let m = A.made in ⊎_elim (λ p. omega (arith, p.1, z.1)) (λ p. omega (arith, p.1, z.1)) (stands_at M r z.0 F S A z.2);
        items = A.items;
        moves = λ k l h m. let p = (O.moves k l h).0 m in subst (λ i. i < F.components) p.4 (below p.1 p.2.2);
        spoken = let w = O.words in let f = O.formed.labels.few_words in omega arith;
        within = λ k h a past.
            let s = state_of k h in
            let w = O.words in
            sym (ap (λ i. words_of (at F.facts i) a) s.2) ∙ O.facts s.0 s.1 a ∙ O.formed.labels.within s.0 a (omega arith);
        near = λ k l h b o.
            let s = state_of k h in
            let t = state_of l b in
            let on = subst (λ i. On S.reach i (part F t.0)) (sym s.2) (subst (λ i. On S.reach k i) (sym t.2) o) in
            let w = st_related M.frame (Related M r) (related_equivalence M r) s.0 t.0 ((A.reach s.0 t.0 s.1 t.1).0 on) in
            sym (ap (at S.partition.class) s.2) ∙ (A.classes.same s.0 t.0 s.1 t.1).1 w ∙ ap (at S.partition.class) t.2;
      }

  module _ (S' : Rounds) (going : S.settled ≡ false) (V : Advanced F S S') where
    same : (s t : ℕ) → s < M.frame.size → t < M.frame.size → (class_of F S' s ≡ class_of F S' t) ↔ Related M (suc r) s t
    same s t h k =
        let a = V.classes.same (part F s) (part F t) (below s h) (below t k) in
        let b = round_parts M r F S A s t h k in
        ((λ e. b.1 (a.0 e)), (λ p. a.1 (b.0 p)))

    numbers : Numbering (Related M (suc r)) M.frame.size (class_of F S') S'.partition.classes
    numbers = record {
      ranked = ranked_two M.frame.size F.components S'.partition.classes (part F) (at S'.partition.class) O.components.ranked V.classes.ranked;
      same = same;
    }

    pub tabled_advanced : Tabled M (suc r) F S'
    tabled_advanced = record {
      surveyed = O;
      labels = A.labels;
      made = V.made ∙ ap (λ x. x + 1) A.made ∙ omega arith;
      classes = numbers;
      items = V.items;
      reach = λ s t h k.
          let n = V.reach (part F s) (part F t) (below s h) (below t k) in
          let w = st_narrows M r s t in
          let o = A.reach s t h k in (
            (λ e. let p = n.0 e in w.1 (o.0 p.0, (same s t h k).0 p.1)),
            (λ e. let p = w.0 e in n.1 (o.1 p.0, (same s t h k).1 p.1)),
          );
      ended = λ e.
          (r, refl, same_stable M r S.partition.classes S'.partition.classes (class_of F S) (class_of F S') A.classes numbers (sym (V.ends e)), A.going going);
      going = λ e.
          unsettled_next M r S.partition.classes S'.partition.classes (class_of F S) (class_of F S') A.classes numbers (A.going going) (λ q. V.goes e (sym q));
    }

module _ (F : Found) (S : Rounds) (meant : ∥ ((M : Kripke) × (r : ℕ) × Tabled M r F S) ∥₁) where
  at_most : (x y : ℕ) → (Bounded F S → x ≤ y) → x ≤ y
  at_most x y f =
      let no_more : y < x → ⊥ = λ over. ∥∥₁_elim meant ⊥_prop (λ a. let b = f (tabled_bounded a.0 a.1 F S a.2) in omega arith) in
      omega arith

  equals : (x y : ℕ) → (Bounded F S → x ≡ y) → x ≡ y
  equals x y f = ⊎_elim
      (λ e. e)
      (λ other. absurd (∥∥₁_elim meant ⊥_prop (λ a. other (f (tabled_bounded a.0 a.1 F S a.2)))))
      (cases_eq x y)

  -- what is opened stands within its bounds
  pub meant_bounded : Bounded F S
  meant_bounded = record {
    wide = at_most F.states 128 (λ B. B.wide);
    parts = λ s h. at_most (suc (part F s)) F.components (λ B. B.parts s h);
    items = equals S.partition.len F.components (λ B. B.items);
    room = at_most S.made 129 (λ B. B.room);
    moves = λ k l h m. at_most (suc l) F.components (λ B. B.moves k l h m);
    spoken = at_most F.words 64 (λ B. B.spoken);
    within = λ k h a past. ⊎_elim
        (λ on. absurd (∥∥₁_elim meant ⊥_prop (λ x. both_ways _ ((tabled_bounded x.0 x.1 F S x.2).within k h a past) on)))
        (λ off. off)
        (cases_Bool (words_of (at F.facts k) a));
    near = λ k l h b o. equals (at S.partition.class k) (at S.partition.class l) (λ B. B.near k l h b o);
  }

  -- and one more round is again the analysis of a model
  pub meant_advanced : (S' : Rounds) → S.settled ≡ false → Advanced F S S' → ∥ ((M : Kripke) × (r : ℕ) × Tabled M r F S') ∥₁
  meant_advanced S' going V = ∥∥₁_map meant (λ a. (a.0, suc a.1, tabled_advanced a.0 a.1 F S a.2 S' going V))
