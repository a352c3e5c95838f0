use Rattle.merger.proofs.Looking.{Looked}
use Rattle.merger.proofs.partition.Partition.classes_of.Given as goal

abbrev pub invariant-loop-k : goal.invariant-loop-k
invariant-loop-k l = Looked l.self.class l.initial.left l.all l.left

abbrev pub decreases-loop-k : goal.decreases-loop-k
decreases-loop-k l = l.left.bits
