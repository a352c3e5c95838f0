use Rattle.std.proofs.Common.{◌∙◌, sym, arith}
use Rattle.codec.proofs.Laying.{laying_none, laying_more, laying_last, laying_full}
use Rattle.codec.proofs.numbers.put_long.Goals as goal

pub loop-end-init : goal.loop-end-init
loop-end-init c = laying_none c.args.number c.args.space.now

pub returns-then-left : goal.returns-then-left
returns-then-left c = laying_last c.args.number c.args.space.now c.loop-end.space c.loop-end.end c.loop-end.left c.loop-end-test.true c.if-left.true c.loop-end.invariant

pub loop-end-preserved : goal.loop-end-preserved
loop-end-preserved c = laying_more c.args.number c.args.space.now c.loop-end.space c.loop-end.end c.loop-end.left c.loop-end-test.true c.if-left.false c.loop-end.invariant

pub returns : goal.returns
returns c = laying_full c.args.number c.args.space.now c.loop-end.space c.loop-end.end c.loop-end.left _ (omega arith) (omega (arith, c.loop-end.auto.space)) c.loop-end.invariant
