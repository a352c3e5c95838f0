use Rattle.std.proofs.Common.{arith}
use Rattle.merger.proofs.Settling.{run_settles}
use Rattle.exported.proofs.jobs.settle.Goals as goal

pub returns : goal.returns
returns g c =
    let t = c.in_ok-opened.ensures in
    let r = run_settles (g.M.Model.means c.args.model.now) _ _ c.in_ok-opened.opened.states t.1 t.0.admitted.0.0 (omega (arith, t.0.states)) c.run.ensures.continues in
    record { rounds = r.0; settles = r.1; stands = r.2; promises = r.3 }
