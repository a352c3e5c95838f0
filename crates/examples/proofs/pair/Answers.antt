use Rattle.std.proofs.Common.{refl}
use Rattle.examples.specs.Examples.{pair_listed}
use Rattle.examples.proofs.pair.Goals as goal

pub returns : goal.returns
unfolding pair_listed
returns c = (refl, refl, refl)
