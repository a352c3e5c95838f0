use Rattle.sets.proofs.Bits.{in_or, or_grows}
use Rattle.sets.proofs.Set.or.Goals as goal

pub returns : goal.returns
returns c = record { means = in_or c.args.self.bits c.args.other.bits; grows = or_grows c.args.self.bits c.args.other.bits }
