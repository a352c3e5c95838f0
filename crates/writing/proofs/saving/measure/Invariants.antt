use Rattle.writing.proofs.Measuring.{RowsMeasured}
use Rattle.writing.proofs.saving.measure.Given as goal

abbrev pub invariant-loop-s : goal.invariant-loop-s
invariant-loop-s g l = RowsMeasured (g.M.Model.means l.model) l.space l.s l.len
