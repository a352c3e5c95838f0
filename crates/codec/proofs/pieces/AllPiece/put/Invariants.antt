use Rattle.std.proofs.Common.{◌≡◌, ℕ, List, ◌++◌}
use Rattle.codec.specs.Pieces.{Lays}
use Rattle.codec.proofs.pieces.AllPiece.put.Given as goal

-- the bytes of the pieces so far are laid, and those of the others are left
abbrev pub invariant-loop-part : goal.invariant-loop-part
invariant-loop-part g l =
    (done : List ℕ) × (g.S.Series.text l.self.0 ≡ done ++ g.S.Series.text l.series) × Lays done l.initial.space l.space l.end

abbrev pub decreases-loop-part : goal.decreases-loop-part
decreases-loop-part g l = g.S.Series.left l.series
