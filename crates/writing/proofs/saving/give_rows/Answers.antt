use Rattle.std.proofs.Common.{arith}
use Rattle.writing.proofs.Giving.{rows_none, rows_more, row_absurd, rows_all}
use Rattle.writing.proofs.saving.give_rows.Goals as goal

pub loop-s-init : goal.loop-s-init
loop-s-init g c = rows_none _ _ _ c.requires.states c.requires.none

pub returns-in_err-rows : goal.returns-in_err-rows
returns-in_err-rows g c =
    let M = g.M.Model.means c.args.model.now in
    let back = rw c.gather.ensures at c.in_err-rows.ensures.answer in
    absurd (row_absurd M _ _ _ _ _ _ c.requires c.loop-s.invariant c.loop-s.auto.buffer (omega arith) back.0.because)

pub loop-s-preserved : goal.loop-s-preserved
loop-s-preserved g c =
    let M = g.M.Model.means c.args.model.now in
    let fits = c.requires.fits in
    let done = rw c.gather.ensures at c.in_ok-rows.ensures.answer in
    let holds = rw c.gather.ensures at c.in_ok-rows.ensures.holds in
    rows_more M _ _ _ _ _ _ _ (omega arith) (omega arith) c.loop-s.invariant done holds

pub returns : goal.returns
returns g c =
    let M = g.M.Model.means c.args.model.now in
    rows_all M _ _ _ _ _ (omega arith) c.loop-s.invariant
