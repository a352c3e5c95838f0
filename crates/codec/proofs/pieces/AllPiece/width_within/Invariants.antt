use Rattle.std.proofs.Common.{◌≡◌, ◌+◌, ◌≤◌, length}
use Rattle.codec.proofs.pieces.AllPiece.width_within.Given as goal

abbrev pub invariant-loop-part : goal.invariant-loop-part
invariant-loop-part g l =
    (l.wide + length (g.S.Series.text l.series) ≡ length (g.S.Series.text l.self.0)) × (l.wide ≤ l.most)

abbrev pub decreases-loop-part : goal.decreases-loop-part
decreases-loop-part g l = g.S.Series.left l.series
