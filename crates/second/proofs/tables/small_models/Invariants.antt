use Rattle.std.proofs.Common.{◌≡◌, ◌+◌, ◌<◌, ◌≤◌, map}
use Rattle.second.specs.Totals.{model, totals_below}
use Rattle.second.proofs.tables.small_models.Given as goal

abbrev pub invariant-loop-size : goal.invariant-loop-size
invariant-loop-size l = (l.most < 31 → map model l.models.items ≡ totals_below l.size) × (l.size ≤ l.most + 1)
