use Rattle.std.proofs.Common.{length}
use Rattle.components.proofs.Taking.{Taken}
use Rattle.components.proofs.search.Search.close.Given as goal

abbrev pub invariant-loop-s : goal.invariant-loop-s
invariant-loop-s l = Taken l.initial.self l.self l.top.at

abbrev pub decreases-loop-s : goal.decreases-loop-s
decreases-loop-s l = length l.self.numbers.held
