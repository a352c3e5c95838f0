use Rattle.std.proofs.Common.{◌-◌, ◌^◌, ◌<◌, ⊎_elim, rules}
use Rattle.std.proofs.lemmas.Nat.{and_le_l}
use Rattle.std.proofs.lemmas.Bool.{cases_lt}
use Rattle.sets.proofs.Bits.{in_and, in_not, high_out}
use Rattle.sets.proofs.Set.minus.Goals as goal

pub returns : goal.returns
returns c =
    let x = c.args.self.bits in
    let y = c.args.other.bits in
    let fits : x < 2 ^ 128 = search rules in
    let fits_other : y < 2 ^ 128 = search rules in
    record {
      means = λ j. let a = in_and x (2 ^ 128 - 1 - y) j in ⊎_elim
          (λ low. let n = in_not 128 y j low fits_other in (λ h. let p = a.0 h in (p.0, n.0 p.1), λ p. a.1 (p.0, n.1 p.1)))
          (λ past. (λ h. absurd (high_out 128 x j fits past (a.0 h).0), λ p. absurd (high_out 128 x j fits past p.0)))
          (cases_lt j 128);
      shrinks = and_le_l x (2 ^ 128 - 1 - y);
    }
