use Rattle.modelfile.specs.Walks.{RowsRead}
use Rattle.modelfile.proofs.scan.Source.rows.Given as goal

abbrev pub invariant-loop-state : goal.invariant-loop-state
invariant-loop-state l = RowsRead l.self l.read l._state
