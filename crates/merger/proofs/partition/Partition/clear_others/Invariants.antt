use Rattle.std.proofs.Common.{◌≡◌}
use Rattle.merger.specs.Grids.{at}
use Rattle.merger.proofs.Gathering.{Sifted}
use Rattle.merger.proofs.partition.Partition.clear_others.Given as goal

abbrev pub invariant-loop-j : goal.invariant-loop-j
invariant-loop-j l = Sifted l.initial.marks l.marks (λ j. at l.self.class j ≡ l.own) l.j
