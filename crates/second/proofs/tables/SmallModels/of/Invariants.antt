use Rattle.std.proofs.Common.{◌≡◌, ◌-◌, map}
use Rattle.std.specs.List.{range_with_len}
use Rattle.second.specs.Totals.{state_of, told}
use Rattle.second.proofs.tables.SmallModels.of.Given as goal

abbrev pub invariant-loop-number : goal.invariant-loop-number
invariant-loop-number l = map told l.possible.items ≡ map (state_of l.size) (range_with_len 2 (l.number - 2))
