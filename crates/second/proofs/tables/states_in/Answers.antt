use Rattle.std.proofs.Common.{arith, rules}
use Rattle.std.proofs.lemmas.Iterator.{items_from_collect, YieldsList-from_range}
use Rattle.std.proofs.lemmas.Iterator.Consumers.{YieldsList-from_filter}
use Rattle.second.proofs.Bits.{shifted}
use Rattle.second.proofs.tables.states_in.Goals as goal
use borrow.Author.Tests.{tests}

pub returns : goal.returns
returns c =
    items_from_collect _ c.collect.ensures.ran
    (YieldsList-from_filter _ _ (YieldsList-from_range 0 c.args.size c.args.size c.filter.ensures.source (omega arith)) c.filter.ensures.closure (λ x b q k. search (rules, tests, shifted)))
