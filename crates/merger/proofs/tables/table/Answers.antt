use Rattle.std.proofs.Common.{◌∙◌}
use Rattle.merger.proofs.Blank.{blank}
use Rattle.merger.proofs.tables.table.Goals as goal

pub returns-clause-others : goal.returns-clause-others
returns-clause-others g c k out = c.write.ensures.others k c.args.blank out ∙ blank 128 k c.args.blank
