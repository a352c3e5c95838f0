use Rattle.std.proofs.Common.{rules}
use Rattle.sets.specs.Sets.{none}
use Rattle.merger.proofs.ahead.write_unions.Goals as goal

pub returns-clause-made : goal.returns-clause-made
returns-clause-made c k h d = let s = c.write.ensures.made k none h in (search (rules, s), search (rules, s))
