use Rattle.std.proofs.Common.{arith}
use Rattle.merger.specs.declared.partition.Partition.{Partition}
use Rattle.merger.proofs.partition.Partition.first.Goals as goal

pub returns : goal.returns
returns c =
    let P : Partition = c.args.self.now in
    let S = rw c.unwrap-first.ensures at c.split_first.ensures in
    let p = (P.groups.each c.args.c c.unwrap-first.result.0).0 S.has in
    record {
      state = p.0;
      has = p.1;
      none_before = λ t l e. let low = p.0 in S.least t l ((P.groups.each c.args.c t).1 (omega arith, e));
    }
