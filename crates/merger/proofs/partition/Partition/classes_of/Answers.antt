use Rattle.std.proofs.Common.{ℕ, sym, subst, arith}
use Rattle.sets.proofs.Bits.{On, none_in}
use Rattle.merger.specs.declared.partition.Partition.{Partition}
use Rattle.merger.specs.Grids.{set_at}
use Rattle.merger.proofs.Looking.{looked_none, looked_more, looked_fewer, looked_all}
use Rattle.merger.proofs.partition.Partition.classes_of.Goals as goal

pub loop-k-init : goal.loop-k-init
loop-k-init c = looked_none _ _

pub class_of-class-requires : goal.class_of-class-requires
class_of-class-requires c = c.requires c.in-Some.k (c.loop-k.invariant.inside c.in-Some.k c.in-Some.ensures.has)

pub loop-k-smaller : goal.loop-k-smaller
loop-k-smaller c =
    let P : Partition = c.args.self.now in
    let k = c.in-Some.k in
    let h = c.requires k (c.loop-k.invariant.inside k c.in-Some.ensures.has) in
    let own = (P.groups.each c.class_of-class.result k).1 (h, sym c.class_of-class.ensures) in
    looked_fewer c.loop-k.left c.minus-left.result k c.in-Some.ensures.has (λ i. ((c.minus-left.ensures.means k).0 i).1 own) c.minus-left.ensures.shrinks

pub loop-k-preserved : goal.loop-k-preserved
loop-k-preserved c =
    let P : Partition = c.args.self.now in
    let k = c.in-Some.k in
    let one = c.class_of-class.result in
    let is = c.class_of-class.ensures in
    let h = c.requires k (c.loop-k.invariant.inside k c.in-Some.ensures.has) in
    looked_more _ _ c.loop-k.all c.loop-k.left k one _ c.with-all.result c.minus-left.result (set_at P.members one) is
    (let low = P.groups.low k h in omega arith) (λ l i. ((P.groups.each one l).0 i).1)
    c.loop-k.invariant c.in-Some.ensures c.with-all.ensures c.minus-left.ensures.means

pub returns : goal.returns
returns c = looked_all _ _ c.loop-k.all c.loop-k.left
    (λ l h. none_in l (subst (λ (b : ℕ). On b l) c.in_default.ensures h)) c.loop-k.invariant
