use Rattle.codec.proofs.Laid.{lays_front}
use Rattle.codec.proofs.pieces.TextPiece.put.Goals as goal

pub returns : goal.returns
returns c = lays_front _ _ _ _ c.min-count.ensures c.copy_from_slice.ensures.after
