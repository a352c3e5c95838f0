use Rattle.sets.proofs.Bits.{in_and}
use Rattle.sets.proofs.Set.and.Goals as goal

pub returns : goal.returns
returns c j = in_and c.args.self.bits c.args.other.bits j
