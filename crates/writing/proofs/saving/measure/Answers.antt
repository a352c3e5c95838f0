use Rattle.std.proofs.Common.{◌≤◌, arith}
use Rattle.std.proofs.lemmas.Result.{err_from_is_err_and}
use Rattle.modelfile.specs.Files.{Sized}
use Rattle.writing.proofs.Measuring.{measured_more, measured_all, row_refused_lem}
use Rattle.writing.proofs.saving.measure.Goals as goal

pub returns-in_err-len : goal.returns-in_err-len
returns-in_err-len g c =
    let M = g.M.Model.means c.args.model.now in
    let few : M.frame.size ≤ 4096 = (g.M.Model.formed c.args.model.now).frame.few_states in
    let sized : Sized M.frame.size = (omega arith, omega arith) in
    let p = err_from_is_err_and c.from_residual.result c.from_residual.ensures.1 in
    rw (p.1, p.2) (row_refused_lem M _ _ _ _ sized (omega arith) c.loop-s.invariant (rw (c.gather.ensures, c.size-states.ensures) at c.in_err-len.ensures))

pub loop-s-preserved : goal.loop-s-preserved
loop-s-preserved g c =
    let M = g.M.Model.means c.args.model.now in
    let done = rw (c.gather.ensures, c.size-states.ensures) at c.in_ok-len.ensures in
    measured_more M _ _ _ _ (omega arith) c.loop-s.invariant done.0 done.1 done.2

pub returns : goal.returns
returns g c =
    let M = g.M.Model.means c.args.model.now in
    let few : M.frame.size ≤ 4096 = (g.M.Model.formed c.args.model.now).frame.few_states in
    let sized : Sized M.frame.size = (omega arith, omega arith) in
    measured_all M _ _ _ sized (omega arith) c.loop-s.invariant
