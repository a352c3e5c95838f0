use Rattle.std.proofs.Common.{ℕ, ◌-◌, ◌^◌}
use Rattle.sets.specs.Sets.{In}
use Rattle.kripke.specs.Paths.{Until}
use Rattle.checker.specs.Tables.{Goes}
use Rattle.checker.proofs.spread.Table.until.Given as goal

abbrev pub invariant-grow : goal.invariant-grow
invariant-grow l =
    ((s : ℕ) → In l.initial.found s → In l.found s) ×
    ((s : ℕ) → In l.found s → (k : ℕ) × Until (Goes l.self.rows.now) (In l.f) (In l.initial.found) k s)

abbrev pub decreases-grow : goal.decreases-grow
decreases-grow l = 2 ^ 128 - l.found.bits
