use Rattle.survey.proofs.Once.{one_gap_lem}
use Rattle.survey.proofs.one_gap.Goals as goal

pub returns : goal.returns
returns c = one_gap_lem
