-- Two stretches of the way become one.
use Rattle.std.proofs.Common.{◌≡◌, ℕ, ◌++◌, ◌⊎◌, List, ◌∷◌, sym, ap, ◌∙◌, subst, inl, inr, ⊎_elim, arith}
use Rattle.std.proofs.lemmas.List.{append_assoc}
use Rattle.sets.specs.declared.Set.{Set}
use Rattle.sets.specs.Sets.{In}
use Rattle.stack.specs.Held.{Held, pushed}
use Rattle.components.specs.Reach.{Leads}
use Rattle.components.specs.Rows.{Edge}
use Rattle.components.specs.Search.{On, Going, Joins}
use Rattle.components.specs.declared.marks.Walk.{Walk}
use Rattle.components.specs.declared.search.Search.{Search}
use Rattle.components.proofs.Laws.{join, goes, any_parts}

-- w is on top of the way, and moves to t, which is on the way before
module _ (rows : List Set) (S : Search) (w : Walk) (S' : Search) (X : Joins S w S') (G : Going rows (record S { walk = pushed S.walk w }))
    (t : ℕ) (moves : In w.moves t) (undone : In S.undone t) (other : In w.states t → ⊥) (seen : In S.unmet t → ⊥) where
  abbrev v : Walk
  v = X.below

  abbrev os : List Walk
  os = X.others.held

  H : Going rows (record S { walk = pushed (pushed X.others v) w })
  H = subst (λ (h : Held Walk). Going rows (record S { walk = pushed h w })) X.two G

  on-way : On (v ∷ os) t
  on-way = ⊎_elim (λ a. absurd (other a)) (λ b. b) (H.met t undone seen)

  back : (a b : ℕ) → In w.states a → In v.states b → Leads (Edge rows) a b
  back a b p q = join
      (goes rows w (v ∷ os) H.way (λ s i. H.states s (H.on s (inl i))) t moves (H.states t undone) a (inl p))
      (⊎_elim (λ i. H.way.3.0.joined t b i q) (λ o. H.way.3.2 t b o q) on-way)

  was : (s : ℕ) → In X.states s ⊎ On os s → On (w ∷ v ∷ os) s
  was s = ⊎_elim (λ p. ⊎_elim (λ a. inr (inl a)) inl ((X.either s).0 p)) (λ o. inr (inr o))

  is : (s : ℕ) → On (w ∷ v ∷ os) s → In X.states s ⊎ On os s
  is s = ⊎_elim (λ b. inl ((X.either s).1 (inr b))) (⊎_elim (λ a. inl ((X.either s).1 (inl a))) inr)

  pub joined : Going rows S'
  joined =
      let top = H.stacked in
      let below = H.stacked.5 in
      subst (Going rows) (sym X.rest) (record {
        way = (
          record {
            some = (H.way.3.0.some.0, (X.either _).1 (inl H.way.3.0.some.1));
            moves = λ u. (
              (λ h. ⊎_elim
                  (λ m. let a = (H.way.3.0.moves u).0 m in (a.0, (X.either a.0).1 (inl a.1), a.2))
                  (λ m. let a = (H.way.0.moves u).0 m in (a.0, (X.either a.0).1 (inr a.1), a.2))
                  ((X.each u).0 h)),
              (λ p. (X.each u).1 (⊎_elim
                  (λ i. inl ((H.way.3.0.moves u).1 (p.0, i, p.2)))
                  (λ i. inr ((H.way.0.moves u).1 (p.0, i, p.2)))
                  ((X.either p.0).0 p.1))),
            );
            joined = λ a b p q. ⊎_elim
                (λ pa. ⊎_elim (λ qa. H.way.3.0.joined a b pa qa) (λ qb. H.way.2 a b (inl pa) qb) ((X.either b).0 q))
                (λ pb. ⊎_elim (λ qa. back a b pb qa) (λ qb. H.way.0.joined a b pb qb) ((X.either b).0 q))
                ((X.either a).0 p);
          },
          (λ s p o. ⊎_elim (λ a. H.way.3.1 s a o) (λ b. H.way.1 s b (inr o)) ((X.either s).0 p)),
          (λ a b o q. ⊎_elim (λ i. H.way.3.2 a b o i) (λ i. H.way.2 a b (inr o) i) ((X.either b).0 q)),
          H.way.3.3,
        );
        stacked = (
          top.0 ++ below.0,
          below.1,
          top.2 ∙ ap (λ (x : List ℕ). top.0 ++ x) below.2 ∙ sym (append_assoc top.0 below.0 below.1),
          below.3,
          (λ s. (
            (λ p. (any_parts (λ x. x ≡ s) top.0 below.0).1 (⊎_elim (λ a. inr ((below.4 s).0 a)) (λ b. inl ((top.4 s).0 b)) ((X.either s).0 p))),
            (λ a. (X.either s).1 (⊎_elim (λ b. inr ((top.4 s).1 b)) (λ b. inl ((below.4 s).1 b)) ((any_parts (λ x. x ≡ s) top.0 below.0).0 a))),
          )),
          below.5,
        );
        states = H.states;
        unmet = λ s h. ((H.unmet s h).0, λ o. (H.unmet s h).1 (was s o));
        on = λ s o. H.on s (was s o);
        met = λ s o n. is s (H.met s o n);
        shut = H.shut;
        same = H.same;
        apart = H.apart;
        below = H.below;
        used = H.used;
        later = H.later;
        cyclic = H.cyclic;
        few = H.few;
        wide = H.wide;
        numbers = H.numbers;
        walks = (omega (arith, H.walks.0), omega (arith, H.walks.1));
      })
