use Rattle.std.proofs.Common.{◌≡◌, length, set, sym, ◌∙◌, subst, arith, below_more}
use Rattle.std.proofs.lemmas.List.{length-take, get_or-set_same, get_or-set_other, get_or_append_left}
use Rattle.sets.specs.Sets.{none}
use Rattle.components.specs.Rows.{row_at}
use Rattle.components.specs.Alike.{AlikeMoves}
use Rattle.components.proofs.alike.write_alike_rows.Goals as goal

pub loop-s-preserved : goal.loop-s-preserved
loop-s-preserved g c =
    let M = g.M.Model.means c.args.model.now in
    let rows = c.loop-s.row-items in
    let s = c.loop-s.s in
    below_more (λ j. AlikeMoves M j (row_at (set rows s c.row_of.result) j)) s
    (λ j l. subst (AlikeMoves M j) (sym (get_or-set_other rows s j c.row_of.result none (λ e. omega arith))) (c.loop-s.invariant j l))
    (subst (AlikeMoves M s) (sym (get_or-set_same rows s c.row_of.result none (omega arith))) c.row_of.ensures)

pub returns : goal.returns
returns g c =
    let M = g.M.Model.means c.args.model.now in
    let few = c.requires in
    let long : length c.loop-s.row-items ≡ c.size.result = c.loop-s.auto.row-items ∙ omega (arith, length-take c.size.result c.args.rows.now, few, c.size.ensures) in
    let all : c.loop-s.s ≡ M.frame.size = omega (arith, long, c.size.ensures) in
    λ s l. subst (AlikeMoves M s) (sym (get_or_append_left c.loop-s.row-items _ none s (omega (arith, long, l, c.size.ensures)))) (c.loop-s.invariant s (omega (arith, all, l)))
