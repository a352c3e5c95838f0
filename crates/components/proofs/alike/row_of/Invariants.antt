use Rattle.std.proofs.Common.{◌≡◌, ℕ, drop}
use Rattle.components.proofs.Reading.{Begun}
use Rattle.components.proofs.alike.row_of.Given as goal

abbrev pub invariant-loop-t : goal.invariant-loop-t
invariant-loop-t g l =
    let M = g.M.Model.means l.model in
    (k : ℕ) × (l.t-iterator ≡ drop k (M.frame.row l.s)) × Begun M l.s k l.row
