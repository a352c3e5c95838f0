use Rattle.std.specs.List.{AllZip}
use Rattle.second.specs.Lists.{lists_below}
use Rattle.second.proofs.lists.lists_up_to.Given as goal

abbrev pub invariant-loop-len : goal.invariant-loop-len
invariant-loop-len g l = AllZip (λ list made. AllZip g.T.Clone.is_clone list made.items) (lists_below l.alphabet l.len) l.all.items
