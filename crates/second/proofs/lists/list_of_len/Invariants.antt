use Rattle.second.proofs.Listing.{Ending}
use Rattle.second.proofs.lists.list_of_len.Given as goal

abbrev pub invariant-loop-place : goal.invariant-loop-place
invariant-loop-place g l = Ending g.T.Clone.is_clone l.alphabet l.len l.number l.items.items l.rest l._place
