use Rattle.merger.proofs.Looking.{ahead_all}
use Rattle.merger.proofs.ahead.ahead.Goals as goal

pub returns : goal.returns
returns c = ahead_all c.args.classes.now c.args.from c.requires.from c.args.moves c.minus.result c.classes_of.result c.mates_of.result
    c.requires.inside c.mates_of.ensures c.minus.ensures.means c.classes_of.ensures
