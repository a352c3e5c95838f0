use Rattle.checker.proofs.Spreads.{Lasts}
use Rattle.checker.proofs.spread.Table.globally.Given as goal

abbrev pub invariant-loop-turn : goal.invariant-loop-turn
invariant-loop-turn l = Lasts l.self.rows.now l.self.n l.f l.left l._turn
