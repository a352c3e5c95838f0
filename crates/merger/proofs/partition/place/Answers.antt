use Rattle.std.proofs.Common.{◌≡◌, ℕ, length, ◌∙◌, subst, arith, length-set, rules}
use Rattle.std.proofs.lemmas.Bool.{iff_false}
use Rattle.sets.specs.Sets.{In}
use Rattle.sets.proofs.Bits.{On, none_in}
use Rattle.merger.proofs.Placing.{sorted_none, sorted_on, sorted_off}
use Rattle.merger.proofs.partition.place.Goals as goal

pub loop-j-init : goal.loop-j-init
loop-j-init c = (search rules, sorted_none _ _ _ _ _)

pub loop-j-preserved-then-same : goal.loop-j-preserved-then-same
loop-j-preserved-then-same c =
    let i = c.loop-j.invariant in
    let S = c.in-Some.ensures in
    let small = S.small in
    let long : length c.loop-j.class ≡ 128 = i.0 in (
      length-set c.loop-j.class _ _ ∙ long,
      sorted_on _ _ _ _ _ c.loop-j.class _ c.loop-j.left c.in-Some.j _ i.1 S (omega arith) (c.same.ensures.0 c.if-same.true),
    )

pub loop-j-preserved : goal.loop-j-preserved
loop-j-preserved c =
    let i = c.loop-j.invariant in
    let S = c.in-Some.ensures in (
      i.0,
      sorted_off _ _ _ _ _ c.loop-j.class _ c.loop-j.left c.in-Some.j _ i.1 S c.or-others.result c.minus.result (iff_false c.same.ensures c.if-same.false)
          c.minus.ensures.means c.or-others.ensures.means,
    )

pub returns : goal.returns
returns c =
    let A = c.loop-j.invariant.1 in
    let none-left : (j : ℕ) → In c.loop-j.left j → ⊥ = λ j h. none_in j (subst (λ (b : ℕ). On b j) c.in_default.ensures h) in
    record {
      others = λ j. let o = A.fails j in ((λ h. let p = o.0 h in (p.0, p.2)), (λ p. o.1 (p.0, none-left j, p.1)));
      placed = λ j g s. A.placed j g (none-left j) s;
      kept = λ j h. A.kept j (λ g _ s. h g s);
    }
