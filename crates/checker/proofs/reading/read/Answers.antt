use Rattle.std.proofs.Common.{arith, below_more}
use Rattle.checker.specs.Reading.{Fine}
use Rattle.checker.proofs.Counts.{operands_more}
use Rattle.checker.proofs.reading.read.Goals as goal

pub loop-i-preserved : goal.loop-i-preserved
loop-i-preserved c =
    let steps = c.args.steps.now in
    let more = operands_more steps c.loop-i.i (omega arith) in (
      below_more (Fine c.args.words steps) c.loop-i.i c.loop-i.invariant.0
          (c.is_known.ensures.0 c.if-not-is_known.false, omega (arith, c.arity-taken.ensures)),
      omega (arith, c.arity-taken.ensures),
      omega arith,
    )
