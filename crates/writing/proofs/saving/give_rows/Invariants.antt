use Rattle.writing.specs.Savings.{RowsGiven}
use Rattle.writing.proofs.saving.give_rows.Given as goal

abbrev pub invariant-loop-s : goal.invariant-loop-s
invariant-loop-s g l = RowsGiven (g.M.Model.means l.model) l.initial.buffer l.buffer l.initial.rows l.s l.rows
