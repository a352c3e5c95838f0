use Rattle.std.proofs.Common.{◌≡◌, length, rules, arith}
use Rattle.merger.specs.declared.partition.Partition.{Partition}
use Rattle.merger.proofs.Joining.{joined-groups, joined-low, joined-some}
use Rattle.merger.proofs.partition.Partition.put.Goals as goal

pub invariant_of-self : goal.invariant_of-self
invariant_of-self c =
    let P : Partition = c.args.self.now in
    let long : length P.class ≡ 128 = search rules in
    let tall : length P.members ≡ 128 = search rules in
    let x = c.with.result in
    let there = c.requires.class in
    let room = c.requires.room in
    let most = P.most in
    record {
      few = omega arith;
      most = let e = c.max-self.ensures in omega arith;
      groups = joined-groups P c.args.class x room there long tall c.with.ensures;
      low = λ k h. let l = joined-low P c.args.class x room there long tall c.with.ensures k h in let e = c.max-self.ensures in omega arith;
      some = λ d h. joined-some P c.args.class x room there long tall c.with.ensures d (let e = c.max-self.ensures in omega arith);
    }
