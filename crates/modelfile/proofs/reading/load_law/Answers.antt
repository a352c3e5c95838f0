use Rattle.modelfile.proofs.Outcome.{one_outcome}
use Rattle.modelfile.proofs.reading.load_law.Goals as goal

pub returns : goal.returns
returns c = one_outcome
