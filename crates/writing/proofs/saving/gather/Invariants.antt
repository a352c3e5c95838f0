use Rattle.std.proofs.Common.{◌≡◌, ◌≤◌, length, drop, take}
use Rattle.codec.specs.Pieces.{placed}
use Rattle.writing.proofs.saving.gather.Given as goal

abbrev pub invariant-loop-target : goal.invariant-loop-target
invariant-loop-target g l =
    let moves = (g.M.Model.means l.model).frame.row l.s in
    (l.row ≡ placed l.initial.row 0 (take l.count moves)) × (l.target-iterator ≡ drop l.count moves) × (l.count ≤ length moves)
