use Rattle.std.proofs.Common.{◌^◌, ◌<◌, ◌&&◌, ltb, ap, rules}
use Rattle.std.proofs.lemmas.Bool.{eqb-true, eq-eqb, lt-ltb}
use Rattle.kripke.specs.Words.{bit}
use Rattle.models.proofs.Bits.{same_from_bits}
use Rattle.models.proofs.facts.FactsLabel.same.Goals as goal

pub returns : goal.returns
returns c =
    let x = c.args.self.now.bits in
    let y = c.args.other.now.bits in
    let x_fits : x < 2 ^ 64 = search rules in
    let y_fits : y < 2 ^ 64 = search rules in (
      λ e a. ap (λ n. ltb a 64 && bit n a) (eqb-true x y e),
      λ h. eq-eqb x y (same_from_bits 64 x y x_fits y_fits (λ a l. rw (lt-ltb a 64 l) at (h a))),
    )
