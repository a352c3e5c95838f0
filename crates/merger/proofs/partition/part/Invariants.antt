use Rattle.std.proofs.Common.{◌≡◌, length}
use Rattle.merger.proofs.Placing.{Parted}
use Rattle.merger.proofs.partition.part.Given as goal

abbrev pub invariant-loop-k : goal.invariant-loop-k
invariant-loop-k l =
    (length l.class ≡ 128) × (length l.members ≡ 128) × (length l.left ≡ 128) ×
    Parted l.rows l.old l.len l.class l.members l.left l.classes l.k
