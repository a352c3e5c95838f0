use Rattle.std.proofs.Common.{arith, rules}
use Rattle.modelfile.proofs.scan.Source.rows.Goals as goal

pub returns-in_err-row : goal.returns-in_err-row
returns-in_err-row c = let fault = c.in_err-row.ensures c.loop-state._state (omega arith) c.loop-state.invariant in search rules

pub loop-state-preserved : goal.loop-state-preserved
loop-state-preserved c = c.in_ok-row.ensures c.loop-state._state (omega arith) c.loop-state.invariant
