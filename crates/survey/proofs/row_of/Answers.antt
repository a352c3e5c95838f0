use Rattle.std.proofs.Common.{◌≡◌, ◌<◌, [], ◌∷◌, drop, subst, arith, rules}
use Rattle.std.specs.Iterator.Adapters.{enumerate_source, enumerate_count}
use Rattle.models.proofs.Remaining.{move_next, move_none}
use Rattle.sets.specs.Sets.{none}
use Rattle.survey.proofs.Rows.{Begun, begun_more, clear_more, lands_in, none_seen, row_done}
use Rattle.survey.proofs.row_of.Goals as goal

pub loop-k-preserved : goal.loop-k-preserved
loop-k-preserved g c =
    let F = (g.M.Model.means c.args.m.now).frame in
    let sound = (g.M.Model.formed c.args.m.now).frame in
    let row = F.row c.args.s in
    let k = enumerate_count c.loop-k.k-iterator in
    let inv = c.loop-k.invariant in
    let step = c.in-Some.ensures.steps in
    let left : drop k row ≡ c.in-Some.t ∷ enumerate_source c.next.new.self = cc in
    let at = move_next row k c.in-Some.t (enumerate_source c.next.new.self) left in
    let state = lands_in F sound c.args.s k c.in-Some.t at.0 at.1 c.if-t-eq-NOWHERE.false in
    rw step.2 (
      at.2,
      clear_more row k c.in-Some.t at.1 c.if-t-eq-NOWHERE.false inv.1,
      begun_more row k c.in-Some.t c.loop-k.row c.add.new.self at.1 (omega (arith, c.requires.sized.1)) inv.2 c.add.ensures,
      λ none. absurd (omega arith),
    )

pub returns-then-eq : goal.returns-then-eq
returns-then-eq g c =
    let row = (g.M.Model.means c.args.m.now).frame.row c.args.s in
    let k = enumerate_count c.loop-k.k-iterator in
    let inv = c.loop-k.invariant in
    let empty : c.loop-k.row ≡ none = search rules in
    let begun : k ≡ 0 = none_seen row k (subst (Begun row k) empty inv.2) in
    let left : drop k row ≡ [] = cc c.in-None.ensures.steps.0.0 in
    (c.requires.sized, c.requires.state, c.requires.below, omega (arith, move_none row k left))

pub returns : goal.returns
returns g c =
    let F = (g.M.Model.means c.args.m.now).frame in
    let row = F.row c.args.s in
    let k = enumerate_count c.loop-k.k-iterator in
    let inv = c.loop-k.invariant in
    let left : drop k row ≡ [] = cc c.in-None.ensures.steps.0.0 in
    let some : 0 < k = search rules in
    rw c.set-row.ensures (row_done F (g.M.Model.formed c.args.m.now).frame c.args.s c.loop-k.row k c.requires.state (move_none row k left) some inv.1 inv.2)
