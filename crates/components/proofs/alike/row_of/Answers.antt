use Rattle.std.proofs.Common.{◌+◌, sym, ◌∙◌, arith}
use Rattle.std.proofs.lemmas.Bool.{false≢true}
use Rattle.std.proofs.lemmas.List.{length-take}
use Rattle.kripke.specs.Models.{Alike}
use Rattle.models.proofs.Remaining.{move_next, move_none}
use Rattle.components.proofs.Reading.{begun_alike, begun_other, begun_all, near}
use Rattle.components.proofs.alike.row_of.Goals as goal

pub loop-t-preserved-then-has_words : goal.loop-t-preserved-then-has_words
loop-t-preserved-then-has_words g c =
    let M = g.M.Model.means c.args.model.now in
    let s = c.args.s in
    let inv = c.loop-t.invariant in
    let step = move_next (M.frame.row s) inv.0 c.in-Some.t c.next.new.self (sym inv.1 ∙ c.in-Some.ensures.steps) in
    let like = (near M c.args.words.now c.size.result c.size.ensures (omega (arith, length-take c.size.result c.args.words.now, c.requires.few, c.size.ensures)) c.requires.told s c.in-Some.t c.requires.state).0 (c.has_words.ensures.0 c.if-has_words.true) in
    (inv.0 + 1, step.2, begun_alike M s inv.0 c.in-Some.t _ _ c.requires.few step.1 like c.add.ensures inv.2)

pub loop-t-preserved : goal.loop-t-preserved
loop-t-preserved g c =
    let M = g.M.Model.means c.args.model.now in
    let s = c.args.s in
    let inv = c.loop-t.invariant in
    let step = move_next (M.frame.row s) inv.0 c.in-Some.t c.next.new.self (sym inv.1 ∙ c.in-Some.ensures.steps) in
    let far = λ (h : Alike M s c.in-Some.t). false≢true (sym c.if-has_words.false ∙ c.has_words.ensures.1 ((near M c.args.words.now c.size.result c.size.ensures (omega (arith, length-take c.size.result c.args.words.now, c.requires.few, c.size.ensures)) c.requires.told s c.in-Some.t c.requires.state).1 h)) in
    (inv.0 + 1, step.2, begun_other M s inv.0 c.in-Some.t _ step.1 far inv.2)

pub returns : goal.returns
returns g c =
    let M = g.M.Model.means c.args.model.now in
    let inv = c.loop-t.invariant in
    rw c.set.ensures (begun_all M c.args.s inv.0 _ c.requires.few (move_none _ inv.0 (sym inv.1 ∙ c.in-None.ensures.steps.0)) inv.2)
