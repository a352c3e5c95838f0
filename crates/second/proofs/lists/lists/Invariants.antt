use Rattle.std.proofs.Common.{take}
use Rattle.std.specs.List.{AllZip}
use Rattle.second.specs.Lists.{lists_of}
use Rattle.second.proofs.lists.lists.Given as goal

abbrev pub invariant-loop-number : goal.invariant-loop-number
invariant-loop-number g l = AllZip (λ list made. AllZip g.T.Clone.is_clone list made.items) (take l.number (lists_of l.alphabet l.len)) l.all.items
