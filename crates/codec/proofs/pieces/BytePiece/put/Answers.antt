use Rattle.std.proofs.Common.{◌<◌, length, rules}
use Rattle.codec.proofs.Laid.{lays_one}
use Rattle.codec.proofs.pieces.BytePiece.put.Goals as goal

pub returns-in-Some : goal.returns-in-Some
returns-in-Some c =
    let some : 0 < length c.args.space.now = search rules in lays_one _ _ some
