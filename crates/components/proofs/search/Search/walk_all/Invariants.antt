use Rattle.std.proofs.Common.{length}
use Rattle.components.specs.Search.{Resting, amount}
use Rattle.components.proofs.search.Search.walk_all.Given as goal

abbrev pub invariant-loop-root : goal.invariant-loop-root
invariant-loop-root l = Resting l.rows l.self

abbrev pub decreases-loop-root : goal.decreases-loop-root
decreases-loop-root l = amount (length l.rows) l.self.unmet
