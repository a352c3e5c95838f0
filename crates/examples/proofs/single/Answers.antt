use Rattle.std.proofs.Common.{refl}
use Rattle.worked.specs.Cases.{lone_listed}
use Rattle.examples.proofs.single.Goals as goal

pub returns : goal.returns
unfolding lone_listed
returns c = (refl, refl, refl)
