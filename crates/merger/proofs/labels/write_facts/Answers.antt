use Rattle.std.proofs.Common.{arith, rules}
use Rattle.merger.proofs.labels.write_facts.Goals as goal

pub returns : goal.returns
returns g c s h = search (rules, c.write.ensures.made s 0 ((c.below.ensures s).1 (omega (arith, h, c.size.ensures), omega (arith, h, c.requires))))
