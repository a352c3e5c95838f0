use Rattle.std.proofs.Common.{◌≡◌, ℕ, ◌<◌, ◌↔◌, [], get_or}
use Rattle.sets.specs.Sets.{In}
use Rattle.merger.specs.Grids.{at, set_at}
use Rattle.merger.proofs.reaching.fill_rows.Given as goal

abbrev pub invariant-loop-k : goal.invariant-loop-k
invariant-loop-k l = (k : ℕ) → k < l.k → (j : ℕ) → (at (get_or l.row-items k []) j ≡ 1) ↔ In (set_at l.sets k) j
