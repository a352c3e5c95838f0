use Rattle.std.proofs.Common.{◌≡◌, ◌≤◌}
use Rattle.checker.specs.Reading.{FineBelow, operands}
use Rattle.checker.proofs.reading.read.Given as goal

abbrev pub invariant-loop-i : goal.invariant-loop-i
invariant-loop-i l = FineBelow l.words l.steps l.i × (l.operands ≡ operands l.steps l.i) × (l.operands ≤ l.i)
