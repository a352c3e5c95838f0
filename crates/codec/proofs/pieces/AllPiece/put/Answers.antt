use Rattle.std.proofs.Common.{[], ◌++◌, sym, refl, ap, ◌∙◌}
use Rattle.std.proofs.lemmas.List.{append_assoc}
use Rattle.codec.proofs.Laid.{lays_none, lays_then}
use Rattle.codec.proofs.pieces.AllPiece.put.Goals as goal

pub loop-part-init : goal.loop-part-init
loop-part-init g c = ([], refl, lays_none _)

pub loop-part-preserved : goal.loop-part-preserved
loop-part-preserved g c =
    let (done, split, lays) = c.loop-part.invariant in
    let piece = g.S.Part.Piece.bytes c.in-Some.part in (
      done ++ piece,
      split ∙ (ap (λ bs. done ++ bs) c.in-Some.ensures.0 ∙ sym (append_assoc done piece _)),
      lays_then _ _ _ done piece _ _ lays c.put-end.ensures,
    )
