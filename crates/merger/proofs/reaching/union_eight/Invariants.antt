use Rattle.merger.proofs.Gathering.{Adding}
use Rattle.merger.proofs.reaching.union_eight.Given as goal

abbrev pub invariant-loop-left : goal.invariant-loop-left
invariant-loop-left l = Adding l.row l.sets l.initial.more l.more l.from l.left

abbrev pub decreases-loop-left : goal.decreases-loop-left
decreases-loop-left l = l.left
