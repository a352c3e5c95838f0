use Rattle.std.proofs.Common.{arith, rules}
use Rattle.models.proofs.Comparing.{same_below}
use Rattle.models.proofs.Label.facts.Goals as goal

pub returns : goal.returns
returns g c =
    let law = g.Self.Label.lawful in
    same_below g.Self.Label.count _ _ (λ a past. c.from_fn.ensures.past a (omega arith)) (law.within c.args.self.now) (λ a l.
    let told = c.from_fn.ensures.below a (omega arith) (omega (arith, law.few)) in
    search rules)
