use Rattle.std.proofs.Common.{◌≡◌, ℕ, ◌<◌, ◌↔◌}
use Rattle.sets.specs.Sets.{In}
use Rattle.merger.specs.Grids.{set_at}
use Rattle.merger.proofs.reaching.alone.Given as goal

abbrev pub invariant-loop-k : goal.invariant-loop-k
invariant-loop-k l = (j : ℕ) → In l.alone j → (j < l.k) × ((i : ℕ) → In (set_at l.sets j) i ↔ (i ≡ j))
