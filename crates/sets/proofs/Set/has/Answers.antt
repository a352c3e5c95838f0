use Rattle.std.proofs.Common.{◌≡◌, ◌/◌, ◌%◌, ◌^◌, ◌<◌, ◌≤◌, sym, ◌∙◌, arith, rules}
use lib.Bits.{bit_and}
use Rattle.std.proofs.lemmas.Nat.{and_mask}
use Rattle.std.proofs.lemmas.Bool.{eqb-true, eq-eqb, ltb-true}
use Rattle.sets.proofs.Bits.{high_out}
use Rattle.sets.proofs.Set.has.Goals as goal

pub returns-then-k-lt128 : goal.returns-then-k-lt128
returns-then-k-lt128 c =
    let x = c.args.self.bits / 2 ^ c.args.k in
    let e : bit_and x 1 ≡ x % 2 = and_mask x 1 in
    (λ t. sym e ∙ eqb-true (bit_and x 1) 1 t, λ p. eq-eqb (bit_and x 1) 1 (e ∙ p))

pub returns-else-k-lt128 : goal.returns-else-k-lt128
returns-else-k-lt128 c =
    let fits : c.args.self.bits < 2 ^ 128 = search rules in
    let past : 128 ≤ c.args.k = search rules in
    (λ t. absurd (omega (arith, ltb-true c.args.k 128 t)), λ p. absurd (high_out 128 c.args.self.bits c.args.k fits past p))
