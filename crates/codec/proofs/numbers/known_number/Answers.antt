use Rattle.codec.proofs.Standing.{known}
use Rattle.codec.proofs.numbers.known_number.Goals as goal

pub returns : goal.returns
returns c = known _ _ _ _ _ c.number_at.ensures c.unwrap_or.ensures
