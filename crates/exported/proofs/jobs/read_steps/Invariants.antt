use Rattle.std.proofs.Common.{◌≡◌, map, take}
use Rattle.exported.specs.Jobs.{step_of}
use Rattle.exported.proofs.jobs.read_steps.Given as goal

abbrev pub invariant-loop-k : goal.invariant-loop-k
invariant-loop-k l = take l.k l.step-items ≡ map step_of (take l.k l.numbers)
