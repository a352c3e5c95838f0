use Rattle.kripke.proofs.theorems.rounds_relate.Goals as goal
use Rattle.kripke.proofs.Claims.{rounds_equivalent, rounds_decided, rounds_refine}

pub returns : goal.returns
returns c = record { equivalent = rounds_equivalent; decided = rounds_decided; refine = rounds_refine }
