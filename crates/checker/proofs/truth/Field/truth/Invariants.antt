use Rattle.checker.proofs.Stacks.{Stacked}
use Rattle.checker.proofs.truth.Field.truth.Given as goal

abbrev pub invariant-loop-step : goal.invariant-loop-step
invariant-loop-step g l = Stacked (g.M.Model.means l.self) l.steps l.step-index l.operands
