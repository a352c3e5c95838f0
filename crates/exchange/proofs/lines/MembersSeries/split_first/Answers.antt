use Rattle.std.proofs.Common.{◌+◌, ◌^◌, ◌<◌, ap, arith, rules}
use Rattle.exchange.specs.Listings.{text_of}
use Rattle.exchange.proofs.Lists.{class_found, few_states, members_done, text-members}
use Rattle.exchange.proofs.lines.MembersSeries.split_first.Goals as goal

pub returns-in_err-class : goal.returns-in_err-class
returns-in_err-class c =
    let outside = rw (← c.in_err-class.ensures.value) at (class_found _ _ _ c.class.ensures) in
    rw c.from_residual.ensures (ap text_of (members_done _ _ _ outside))

pub overflow_add-from : goal.overflow_add-from
overflow_add-from c =
    let found = rw (← c.in_ok-class.ensures.value) at (class_found _ _ _ c.class.ensures) in
    let few : c.args.self.from + 1 < 2 ^ 16 = omega (arith, few_states c.args.self.analysis.now, found.0) in
    search rules

pub returns : goal.returns
returns c =
    let found = rw (← c.in_ok-class.ensures.value) at (class_found _ _ _ c.class.ensures) in
    (text-members _ _ _ _ found.0 found.1, omega (arith, found.0))
