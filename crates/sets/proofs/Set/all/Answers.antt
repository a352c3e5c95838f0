use Rattle.sets.proofs.Bits.{all_in}
use Rattle.sets.proofs.Set.all.Goals as goal

pub returns : goal.returns
returns c j l = all_in j l
