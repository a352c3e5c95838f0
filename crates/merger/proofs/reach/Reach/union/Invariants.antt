use Rattle.std.proofs.Common.{◌*◌, [], get_or}
use Rattle.merger.proofs.Gathering.{Gathered}
use Rattle.merger.proofs.reach.Reach.union.Given as goal

abbrev pub invariant-loop-block : goal.invariant-loop-block
invariant-loop-block l = Gathered l.all (get_or l.self.rows l.k []) l.sets (l.block * 8)
