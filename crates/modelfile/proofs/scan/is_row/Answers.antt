use Rattle.std.proofs.lemmas.List.{take_all, take_more}
use Rattle.modelfile.proofs.Judging.{judged_none, judged_more, judged_row}
use Rattle.modelfile.proofs.scan.is_row.Goals as goal

pub loop-byte-init : goal.loop-byte-init
loop-byte-init c = judged_none

pub loop-byte-preserved : goal.loop-byte-preserved
loop-byte-preserved c = rw (take_more c.args.bytes.now c.loop-byte.byte-index 0 c.loop-byte-test.true) (judged_more _ _ _ _ c.loop-byte.invariant)

pub returns-then-rises : goal.returns-then-rises
returns-then-rises c =
    let all = take_all c.loop-byte.byte-index c.args.bytes.now c.loop-byte-test.false in
    rw c.if-rises.true at (judged_row c.args.states _ _ _ (rw all at c.loop-byte.invariant))

pub returns-else-rises : goal.returns-else-rises
returns-else-rises c =
    let all = take_all c.loop-byte.byte-index c.args.bytes.now c.loop-byte-test.false in
    let told = rw c.if-rises.false at (judged_row c.args.states _ _ _ (rw all at c.loop-byte.invariant)) in
    rw c.if-rises.false told
