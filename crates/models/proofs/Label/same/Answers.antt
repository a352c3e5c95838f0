use Rattle.std.proofs.Common.{ℕ, tests, arith, rules}
use Rattle.std.proofs.Math.Bool.{beq}
use Rattle.std.proofs.lemmas.Iterator.{YieldsList-from_range}
use Rattle.std.proofs.lemmas.Iterator.Search.{all_from_yields_List}
use Rattle.models.proofs.Comparing.{tells_same}
use Rattle.models.proofs.Label.same.Goals as goal

pub returns : goal.returns
returns g c =
    let v = g.Self.Label.means c.args.self.now in
    let w = g.Self.Label.means c.args.other.now in
    let n = g.Self.Label.count in
    let law = g.Self.Label.lawful in
    tells_same n v w _ (law.within _) (law.within _)
    (all_from_yields_List (λ (a : ℕ). beq (v a) (w a)) _ _ _ c.all.ensures.ran (YieldsList-from_range 0 n n (cc) (omega arith)) (λ x b q k. search (rules, tests)))
