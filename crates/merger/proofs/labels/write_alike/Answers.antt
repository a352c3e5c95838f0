use Rattle.std.proofs.Common.{arith, rules}
use Rattle.sets.specs.Sets.{none}
use Rattle.merger.specs.declared.partition.Partition.{Partition}
use Rattle.merger.proofs.labels.write_alike.Goals as goal

pub returns : goal.returns
returns c s t h =
    let P : Partition = c.args.labels.now in
    let few = P.few in
    let len = c.len.ensures in
    let made = c.write.ensures.made s none ((c.below.ensures s).1 (omega arith, omega arith)) in
    (search (rules, made), search (rules, made))
