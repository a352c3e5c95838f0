use Rattle.std.proofs.Common.{◌-◌, ◌^◌, ◌<◌, arith, rules}
use lib.Count.{count_trailing_zeros}
use Rattle.std.proofs.lemmas.Nat.{and_le_r}
use Rattle.sets.proofs.Bits.{in_and, Lowest, lowest}
use Rattle.sets.proofs.Set.split_first.Goals as goal

pub returns : goal.returns
returns c =
    let x = c.args.self.bits in
    let fits : x < 2 ^ 128 = search rules in
    let some : 0 < x = let n = c.if-self-eq0.false in omega arith in
    let L : Lowest 128 x (count_trailing_zeros 128 x) = lowest 128 x some fits in
    record {
      has = L.has;
      small = L.small;
      least = L.least;
      others = λ j. let a = in_and x (x - 1) j in let o = L.others j in (λ h. o.0 (a.0 h), λ h. a.1 (o.1 h));
      falls = omega (arith, and_le_r x (x - 1));
    }
