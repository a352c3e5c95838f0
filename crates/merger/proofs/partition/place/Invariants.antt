use Rattle.std.proofs.Common.{◌≡◌, length}
use Rattle.merger.proofs.Placing.{Sorted}
use Rattle.merger.proofs.partition.place.Given as goal

abbrev pub invariant-loop-j : goal.invariant-loop-j
invariant-loop-j l = (length l.class ≡ 128) × Sorted l.rows l.row l.fn.group l.c l.initial.class l.class l.others l.left

abbrev pub decreases-loop-j : goal.decreases-loop-j
decreases-loop-j l = l.left.bits
