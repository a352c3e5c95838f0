use Rattle.std.proofs.Common.{◌∙◌, rules}
use Rattle.sets.specs.Sets.{none}
use Rattle.merger.proofs.ahead.write_ahead.Goals as goal

pub returns-clause-wanted : goal.returns-clause-wanted
returns-clause-wanted c k h d = let s = c.write.ensures.made k none h in (search (rules, s), search (rules, s))

pub returns-clause-others : goal.returns-clause-others
returns-clause-others c k out = c.write.ensures.others k none out ∙ c.requires.blank k
