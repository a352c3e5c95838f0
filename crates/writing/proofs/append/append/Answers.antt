use Rattle.writing.proofs.Space.{appended}
use Rattle.writing.proofs.append.append.Goals as goal

pub returns : goal.returns
returns g c = appended _ _ _ _ _ _ c.min-limit.ensures c.write.ensures
