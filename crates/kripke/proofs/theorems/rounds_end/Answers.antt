use Rattle.kripke.proofs.theorems.rounds_end.Goals as goal
use Rattle.kripke.proofs.Claims.{stable_stays, rounds_settle, settled_once, rounds_counted}

pub returns : goal.returns
returns c = record { stays = stable_stays; settle = rounds_settle; once = settled_once; counted = rounds_counted }
