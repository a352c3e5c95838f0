use Rattle.std.proofs.Common.{refl}
use Rattle.worked.specs.Cases.{polls_listed}
use Rattle.examples.proofs.polls.Goals as goal

pub returns : goal.returns
unfolding polls_listed
returns c = (refl, refl, refl)
