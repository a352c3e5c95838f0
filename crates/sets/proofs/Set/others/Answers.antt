use Rattle.std.proofs.Common.{rules}
use Rattle.sets.proofs.Bits.{in_not}
use Rattle.sets.proofs.Set.others.Goals as goal

pub returns : goal.returns
returns c j l = in_not 128 c.args.self.bits j l (search rules)
