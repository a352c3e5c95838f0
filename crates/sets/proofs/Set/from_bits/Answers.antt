use Rattle.std.proofs.Common.{◌^◌, ◌<◌, ⊎_elim, rules}
use Rattle.std.proofs.lemmas.Bool.{cases_lt}
use Rattle.sets.proofs.Bits.{high_out}
use Rattle.sets.proofs.Set.from_bits.Goals as goal

pub returns : goal.returns
returns c j =
    let fits : c.args.bits < 2 ^ 64 = search rules in (
      λ h. ⊎_elim (λ low. (low, h)) (λ past. absurd (high_out 64 c.args.bits j fits past h)) (cases_lt j 64),
      λ p. p.1,
    )
