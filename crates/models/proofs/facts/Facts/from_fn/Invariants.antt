use Rattle.std.proofs.Common.{◌≡◌, ℕ, ◌<◌, ◌≤◌, false}
use Rattle.models.specs.Facts.{fact_words}
use Rattle.models.proofs.facts.Facts.from_fn.Given as goal

abbrev pub invariant-loop-a : goal.invariant-loop-a
invariant-loop-a g l =
    ((k : ℕ) → k < l.a → k < 64 → goal.F-post g l.holds k (fact_words l.all k))
    × ((k : ℕ) → l.a ≤ k → fact_words l.all k ≡ false)
