use Rattle.std.proofs.Common.{◌≡◌, drop}
use Rattle.codec.proofs.Fronts.{Front}
use Rattle.codec.proofs.numbers.read_number.Given as goal

abbrev pub invariant-loop-k : goal.invariant-loop-k
invariant-loop-k l = Front l.bytes l.k l.low l.scale × (l.left ≡ drop l.k l.bytes)
