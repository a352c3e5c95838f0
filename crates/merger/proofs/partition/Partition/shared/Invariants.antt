use Rattle.merger.proofs.Looking.{SharedBelow}
use Rattle.merger.proofs.partition.Partition.shared.Given as goal

abbrev pub invariant-loop-class : goal.invariant-loop-class
invariant-loop-class l = SharedBelow l.self.members l.all l.class-index
