use Rattle.std.proofs.Common.{arith, rules}
use Rattle.modelfile.proofs.Walking.{rows_more}
use Rattle.modelfile.proofs.scan.Source.long_row.Goals as goal

pub returns-in_err-low : goal.returns-in_err-low
returns-in_err-low c rows read =
    let fault = c.in_err-low.ensures rows _ _ (omega arith) (c.loop-target.invariant rows read) in
    search rules

pub loop-target-preserved : goal.loop-target-preserved
loop-target-preserved c rows read = c.in_ok-low.ensures rows _ _ (omega arith) (c.loop-target.invariant rows read)

pub returns : goal.returns
returns c rows read = rows_more _ _ _ _ _ _ (c.loop-target.invariant rows read) (omega arith)
