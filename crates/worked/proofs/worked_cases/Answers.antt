use Rattle.worked.proofs.worked_cases.Goals as goal
use Rattle.worked.proofs.Cases.{worked}

pub returns : goal.returns
returns c = worked
