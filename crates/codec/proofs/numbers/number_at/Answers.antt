use Rattle.codec.proofs.Standing.{byte_stands}
use Rattle.codec.proofs.numbers.number_at.Goals as goal

pub returns-in-Some : goal.returns-in-Some
returns-in-Some c =
    let found = c.in-Some.ensures.lookup in
    byte_stands _ _ _ found.3.0 (found.3.1 0) c.if-byte-lt-MORE.true
