use Rattle.std.proofs.Common.{◌≡◌, length}
use Rattle.merger.proofs.Closing.{Known}
use Rattle.merger.proofs.closure.close.Given as goal

abbrev pub invariant-loop-k : goal.invariant-loop-k
invariant-loop-k l = Known l.moves l.classes l.order l.reach l.k-index × (length l.reach ≡ 128)
