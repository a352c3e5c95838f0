use Rattle.kripke.proofs.theorems.components_stay.Goals as goal
use Rattle.kripke.proofs.Claims.{components_kept, st_narrow}

pub returns : goal.returns
returns c = record { kept = components_kept; narrows = st_narrow }
