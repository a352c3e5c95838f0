use Rattle.std.proofs.Common.{ℕ}
use Rattle.modelfile.specs.Walks.{TargetsRead}
use Rattle.modelfile.proofs.scan.Source.long_row.Given as goal

-- of any rows that were read before, the next is read up to here
abbrev pub invariant-loop-target : goal.invariant-loop-target
invariant-loop-target l =
    (rows : ℕ) → TargetsRead l.self l.fn.read rows l.fn.degree 0 0 → TargetsRead l.self l.read rows l.degree l._target l.low
