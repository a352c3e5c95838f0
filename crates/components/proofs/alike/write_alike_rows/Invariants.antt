use Rattle.std.proofs.Common.{ℕ, ◌<◌}
use Rattle.components.specs.Rows.{row_at}
use Rattle.components.specs.Alike.{AlikeMoves}
use Rattle.components.proofs.alike.write_alike_rows.Given as goal

abbrev pub invariant-loop-s : goal.invariant-loop-s
invariant-loop-s g l = (j : ℕ) → j < l.s → AlikeMoves (g.M.Model.means l.model) j (row_at l.row-items j)
