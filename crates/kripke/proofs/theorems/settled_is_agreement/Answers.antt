use Rattle.kripke.proofs.theorems.settled_is_agreement.Goals as goal
use Rattle.kripke.proofs.Claims.{stable_exact}

pub returns : goal.returns
returns c = stable_exact
