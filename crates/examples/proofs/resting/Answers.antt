use Rattle.std.proofs.Common.{refl}
use Rattle.worked.specs.Cases.{bare_listed}
use Rattle.examples.proofs.resting.Goals as goal

pub returns : goal.returns
unfolding bare_listed
returns c = (refl, refl, refl)
