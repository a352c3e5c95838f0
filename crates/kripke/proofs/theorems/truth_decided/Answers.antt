use Rattle.kripke.proofs.theorems.truth_decided.Goals as goal
use Rattle.kripke.proofs.Claims.{truth_decided_lem}

pub returns : goal.returns
returns c = truth_decided_lem
