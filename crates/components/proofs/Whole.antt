-- How the search begins, and what is known when all walks are over.
use Rattle.std.proofs.Common.{◌≡◌, ℕ, ◌<◌, ◌≤◌, ◌↔◌, List, [], length, replicate, sym, refl, subst, arith}
use Rattle.sets.specs.declared.Set.{Set}
use Rattle.sets.specs.Sets.{In, none}
use Rattle.sets.proofs.Bits.{none_in}
use Rattle.components.specs.Search.{On, Done, Going, Resting, Searched}
use Rattle.components.proofs.Amount.{amount_few}
use Rattle.components.specs.declared.search.Search.{Search}

module _ (rows : List Set) (S : Search) (R : Resting rows S) (met : (s : ℕ) → In S.unmet s → ⊥) where
  G : Going rows S
  G = R.0

  done : (s : ℕ) → s < length rows → Done rows S s
  done s l = (l, λ o. subst (λ ws. On ws s) R.1 (G.met s o (met s)))

  pub over : Searched rows S
  over = record {
    below = λ s l. G.below s (done s l);
    used = λ d l. let u = G.used d l in (u.0, u.1.0, u.2);
    later = λ s t e. G.later s t (done s e.0) e;
    few = omega (arith, G.numbers.0);
    same = λ s t ls lt. (
      (λ e. (G.same s t (done s ls) (done t lt) e, G.same t s (done t lt) (done s ls) (sym e))),
      (λ p. G.apart s t (done s ls) (done t lt) p.0 p.1),
    );
    cyclic = λ d. (
      (λ h. let p = (G.cyclic d).0 h in (p.0, p.1, p.3, p.4, p.5)),
      (λ p. (G.cyclic d).1 (p.0, p.1, done p.0 p.2.0, p.2, p.3, p.4)),
    );
  }

-- at the beginning nothing is met
pub start : (rows : List Set) (S : Search) (n : ℕ) → length rows ≡ n → n ≤ 128 → n ≤ S.numbers.room → n ≤ S.walk.room →
    ((s : ℕ) → In S.undone s ↔ ((s < n) × (s < 128))) →
    S ≡ record S { component = replicate 128 0; count = 0; cyclic = none; unmet = S.undone; numbers = record S.numbers { held = [] }; walk = record S.walk { held = [] } } → Resting rows S
start rows S n long few numbers walks below same =
    let all = λ (s : ℕ) (l : s < length rows). (below s).1 (omega arith, omega arith) in
    subst (Resting rows) (sym same) (
      record {
        way = tt;
        stacked = refl;
        states = λ s h. omega (arith, ((below s).0 h).0);
        unmet = λ s h. (h, λ o. o);
        on = λ s o. absurd o;
        met = λ s h n. absurd (n h);
        shut = λ s t d. absurd (d.1 (all s d.0));
        same = λ s t d. absurd (d.1 (all s d.0));
        apart = λ s t d. absurd (d.1 (all s d.0));
        below = λ s d. absurd (d.1 (all s d.0));
        used = λ d l. absurd (omega arith);
        later = λ s t d. absurd (d.1 (all s d.0));
        cyclic = λ d. ((λ h. absurd (none_in d h)), (λ p. absurd (p.2.1 (all p.0 p.2.0))));
        few = omega arith;
        wide = refl;
        numbers = (omega (arith, amount_few (length rows) S.undone), omega arith);
        walks = (omega (arith, amount_few (length rows) S.undone), omega arith);
      },
      refl,
    )
