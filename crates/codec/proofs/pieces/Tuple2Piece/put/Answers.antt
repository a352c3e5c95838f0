use Rattle.codec.proofs.Laid.{lays_then}
use Rattle.codec.proofs.pieces.Tuple2Piece.put.Goals as goal

pub returns : goal.returns
returns g c = lays_then _ _ _ _ _ _ _ c.put-end.ensures c.put.ensures
