use Rattle.std.proofs.Common.{◌≡◌, ⊎_elim, rules}
use Rattle.std.proofs.lemmas.Bool.{eqb-true}
use Rattle.sets.proofs.Bits.{in_dec}
use Rattle.stack.specs.Held.{pushed}
use Rattle.components.specs.Search.{walking}
use Rattle.components.proofs.Steps.{room, no_member, back, enter_step, may_join, join_step, close_step}
use Rattle.components.proofs.search.Search.step.Goals as goal

pub enter-requires-clause-room : goal.enter-requires-clause-room
enter-requires-clause-room c =
    let met = (c.and-2.ensures c.in-Some.t).0 c.in-Some.ensures.has in
    (room c.args.rows.now (walking c.args.self.now c.args.top) c.in-Some.t c.requires met.1).2

pub returns-in-Some-clause-next : goal.returns-in-Some-clause-next
returns-in-Some-clause-next c =
    let t = c.in-Some.t in
    let met = (c.and-2.ensures t).0 c.in-Some.ensures.has in
    let ahead = (c.and.ensures t).0 ((c.minus-ahead.ensures.means t).0 met.0).0 in
    let on : c.push.new.self ≡ pushed c.args.self.now.walk c.args.top = search (rules, c.push.ensures) in
    enter_step c.args.rows.now c.args.self.now c.args.top c.requires c.push.new.self _ t on c.enter.ensures ahead.0 met.1

pub join-requires : goal.join-requires
join-requires c = may_join c.args.rows.now c.args.self.now c.args.top c.requires
    (back c.args.self.now c.args.top c.and.result c.minus-ahead.result c.and-2.result c.and.ensures c.minus-ahead.ensures.means c.and-2.ensures
    (search rules) c.if-ne.ensures (search (rules, c.split_first.ensures, c.in_default.is)))

pub returns-then-ne-clause-next : goal.returns-then-ne-clause-next
returns-then-ne-clause-next c = join_step c.args.rows.now c.args.self.now c.args.top c.requires _ c.join.ensures
    (back c.args.self.now c.args.top c.and.result c.minus-ahead.result c.and-2.result c.and.ensures c.minus-ahead.ensures.means c.and-2.ensures
    (search rules) c.if-ne.ensures (search (rules, c.split_first.ensures, c.in_default.is)))

pub returns-clause-next : goal.returns-clause-next
returns-clause-next c =
    let none : c.minus-ahead.result.bits ≡ 0 = eqb-true c.minus-ahead.result.bits 0 (search rules) in
    close_step c.args.rows.now c.args.self.now c.args.top c.requires c.close.new.self c.pop.new.self c.pop.result c.close.ensures
    (λ t m u. ⊎_elim
    (λ i. i)
    (λ o. absurd (no_member c.minus-ahead.result none t ((c.minus-ahead.ensures.means t).1 ((c.and.ensures t).1 (m, u), o))))
    (in_dec c.args.top.states.bits t))
    c.pop.ensures
