use Rattle.codec.proofs.Laying.{Laying}
use Rattle.codec.proofs.numbers.put_long.Given as goal

abbrev pub invariant-loop-end : goal.invariant-loop-end
invariant-loop-end l = Laying l.number l.initial.space l.space l.end l.left
