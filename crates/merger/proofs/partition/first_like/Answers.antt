use Rattle.std.proofs.Common.{◌≡◌, length, take, arith, rules, tests}
use Rattle.std.proofs.lemmas.Iterator.{YieldsList-from_slice, IsFirst-from_position}
use Rattle.merger.specs.Grids.{at}
use Rattle.merger.proofs.Placing.{first_below}
use Rattle.merger.proofs.partition.first_like.Goals as goal

pub returns : goal.returns
returns c =
    let words = c.args.words.now in
    let k = c.args.k in
    let own = at words k in
    let tall : length words ≡ 128 = search rules in
    first_below words k (omega (arith, tall, c.requires.few)) c.position.result (λ x. x ≡ own) (λ x. x ≡ own → ⊥)
    (IsFirst-from_position _ _ c.position.result (λ x. x ≡ own) (λ x. x ≡ own → ⊥) c.position.ensures.ran
    (YieldsList-from_slice (take k words) (search rules)) (λ x q e. search (rules, tests)) (λ x q e. search (rules, tests)))
