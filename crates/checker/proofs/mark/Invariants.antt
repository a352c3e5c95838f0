use Rattle.std.proofs.Common.{◌≡◌, ℕ, ◌<◌, get_or}
use Rattle.sets.specs.Sets.{bit}
use Rattle.checker.proofs.mark.Given as goal

abbrev pub invariant-loop-s : goal.invariant-loop-s
invariant-loop-s l = (j : ℕ) → j < l.s → get_or l.mark-items j 0 ≡ bit l.set.bits j
