use Rattle.kripke.proofs.theorems.globally_goes_on.Goals as goal
use Rattle.kripke.proofs.Claims.{globally_goes_on_lem}

pub returns : goal.returns
returns c = globally_goes_on_lem
