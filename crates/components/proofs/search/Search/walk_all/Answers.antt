use Rattle.std.proofs.Common.{rules}
use Rattle.components.proofs.Steps.{no_member}
use Rattle.components.proofs.Whole.{over}
use Rattle.components.proofs.search.Search.walk_all.Goals as goal

pub returns : goal.returns
returns c = over _ _ c.loop-root.invariant (no_member _ (search (rules, c.split_first.ensures, c.in_default.is)))
