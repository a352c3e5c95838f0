use Rattle.std.proofs.Common.{◌<◌, length}
use Rattle.components.specs.Search.{Going, walking, amount, left}
use Rattle.components.proofs.search.Search.explore.Given as goal

abbrev pub invariant-loop-next : goal.invariant-loop-next
invariant-loop-next l = Going l.rows (walking l.self l.top) × (amount (length l.rows) l.self.unmet < amount (length l.rows) l.fn.self.unmet)

abbrev pub decreases-loop-next : goal.decreases-loop-next
decreases-loop-next l = left l.rows (walking l.self l.top)
