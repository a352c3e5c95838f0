use Rattle.std.proofs.Common.{ℕ, ◌<◌, get_or}
use Rattle.sets.specs.Sets.{none}
use Rattle.survey.specs.Gaps.{TotalBelow, RowIs}
use Rattle.survey.proofs.rows_of.Given as goal

abbrev pub invariant-loop-s : goal.invariant-loop-s
invariant-loop-s g l =
    let F = (g.M.Model.means l.m).frame in
    TotalBelow F l.s × ((j : ℕ) → j < l.s → RowIs F j (get_or l.row-items j none))
