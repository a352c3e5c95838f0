use Rattle.std.proofs.Common.{arith, rules}
use Rattle.merger.specs.declared.partition.Partition.{Partition}
use Rattle.merger.proofs.labels.write_first.Goals as goal

pub returns : goal.returns
returns c k h =
    let P : Partition = c.args.components.now in
    let most = P.most in
    let few = P.few in
    let count = c.classes.ensures in
    search (rules, c.write.ensures.made k 0 ((c.below.ensures k).1 (omega arith, omega arith)))
