use Rattle.std.proofs.Common.{rules, ◌≡◌, ℕ, ◌<◌, length, drop, sym, ap, ◌∙◌, arith}
use Rattle.models.proofs.Remaining.{first_of, first_told}
use Rattle.models.proofs.moves.MovesIterator.next.Goals as goal
use Rattle.models.proofs.moves.MovesIterator.next.Goals.{in-Some+in_ok-get-in-Some, in-None+in_ok-t-in-None}

-- src/moves.rt:48:5
pub returns-clause-steps : goal.returns-clause-steps
returns-clause-steps g c = elim c.match-self.branch [
  | in-Some+in_ok-get-in-Some w ↦ sym c.self.view_is ∙ first_told _ w.in-Some.row.now c.self.inside.size c.self.inside.told c.match-self.t (search (rules, c.self.invariant)) (search rules) (search rules)
  | in-None+in_ok-t-in-None w ↦ sym c.self.view_is ∙ first_of ((g.M.Model.means c.self.inside.model.now).frame.row c.self.inside.state) c.self.inside.told c.match-self.t (search rules)
]
