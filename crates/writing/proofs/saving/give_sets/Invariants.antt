use Rattle.writing.specs.Savings.{SetsGiven}
use Rattle.writing.proofs.saving.give_sets.Given as goal

abbrev pub invariant-loop-s : goal.invariant-loop-s
invariant-loop-s g l = SetsGiven (g.M.Model.means l.model) l.initial.buffer l.buffer l.initial.sets l.s l.sets
