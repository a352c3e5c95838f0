use Rattle.std.proofs.Common.{arith}
use Rattle.sets.proofs.Members.{members_few}
use Rattle.merger.specs.Grids.{set_at}
use Rattle.merger.proofs.reduced.ReducedKripkeModel.degree.Goals as goal

pub overflow_cast-result : goal.overflow_cast-result
overflow_cast-result c = omega (arith, c.count.ensures, members_few (set_at c.args.self.now.moves c.args.s))
