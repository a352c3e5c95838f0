use Rattle.std.proofs.Common.{ℕ, ◌<◌, true, false}
use Rattle.sets.specs.Sets.{In}
use Rattle.checker.proofs.passing.passing.Given as goal

abbrev pub invariant-loop-k : goal.invariant-loop-k
invariant-loop-k g l = record {
  passed : (j : ℕ) → In l.found j → (j < l.k) × goal.F-post g l.test j true;
  failed : (j : ℕ) → j < l.k → (In l.found j → ⊥) → goal.F-post g l.test j false;
}
