-- A state is met.
use Rattle.std.proofs.Common.{◌≡◌, ℕ, ◌+◌, ◌<◌, List, [], ◌∷◌, length, sym, refl, ◌∙◌, subst, inl, inr, ⊎_elim, arith}
use Rattle.std.proofs.lemmas.Bool.{cases_eq}
use Rattle.sets.specs.declared.Set.{Set}
use Rattle.sets.specs.Sets.{In}
use Rattle.components.specs.Reach.{Leads, stop}
use Rattle.components.specs.Rows.{row_at, Edge}
use Rattle.components.specs.Search.{On, Going, Entered, amount}
use Rattle.components.specs.declared.search.Search.{Search}
use Rattle.components.proofs.Amount.{amount_less}

-- t is not met yet, and what is on the way leads to it
module _ (rows : List Set) (S : Search) (t : ℕ) (G : Going rows S) (new : In S.unmet t) where
  pub within : t < length rows
  within = G.states t (G.unmet t new).0

  module _ (S' : Search) (X : Entered rows S t S') where
    pub less : amount (length rows) S.unmet ≡ amount (length rows) S'.unmet + 1
    less = amount_less (length rows) S.unmet S'.unmet t within new X.unmet

    pub entered : ((s : ℕ) → On S.walk.held s → Leads (Edge rows) s t) → Going rows S'
    entered here = subst (Going rows) (sym X.rest) (record {
      way = (
        record {
          some = (t, (X.alone t).1 refl);
          moves = λ u. (
            (λ h. (t, (X.alone t).1 refl, h)),
            (λ p. subst (λ x. In (row_at rows x) u) ((X.alone p.0).0 p.1) p.2),
          );
          joined = λ a b p q. subst (λ x. Leads (Edge rows) a x) ((X.alone a).0 p ∙ sym ((X.alone b).0 q)) stop;
        },
        (λ s p o. (G.unmet t new).1 (subst (On S.walk.held) ((X.alone s).0 p) o)),
        (λ a b o q. subst (λ x. Leads (Edge rows) a x) (sym ((X.alone b).0 q)) (here a o)),
        G.way,
      );
      stacked = (
        t ∷ [],
        S.numbers.held,
        refl,
        refl,
        (λ s. ((λ p. inl (sym ((X.alone s).0 p))), ⊎_elim (λ e. (X.alone s).1 (sym e)) (λ a. absurd a))),
        G.stacked,
      );
      states = G.states;
      unmet = λ s h. let p = (X.unmet s).0 h in let q = G.unmet s p.0 in
          (q.0, ⊎_elim (λ a. p.1 ((X.alone s).0 a)) q.1);
      on = λ s. ⊎_elim (λ a. subst (In S.undone) (sym ((X.alone s).0 a)) (G.unmet t new).0) (G.on s);
      met = λ s o n. ⊎_elim
          (λ e. inl ((X.alone s).1 e))
          (λ ne. inr (G.met s o (λ h. n ((X.unmet s).1 (h, ne)))))
          (cases_eq s t);
      shut = G.shut;
      same = G.same;
      apart = G.apart;
      below = G.below;
      used = G.used;
      later = G.later;
      cyclic = G.cyclic;
      few = G.few;
      wide = G.wide;
      numbers = (omega (arith, less, G.numbers.0), G.numbers.1);
      walks = (omega (arith, less, G.walks.0), G.walks.1);
    })
