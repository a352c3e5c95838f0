use Rattle.std.proofs.Common.{arith}
use Rattle.modelfile.specs.Files.{model_of}
use Rattle.merger.proofs.Settling.{run_settles}
use Rattle.exchange.proofs.settling.settle.Goals as goal

pub returns-clause-answer : goal.returns-clause-answer
returns-clause-answer c =
    let t = c.in_ok-opened.ensures.answer in
    let r = run_settles (model_of t.labels t.rows) _ _ c.in_ok-opened.opened.states t.stands t.tells.admitted.0.0 (omega (arith, t.tells.states)) c.run.ensures.continues in
    record { labels = t.labels; rows = t.rows; held = t.held; are = record { rounds = r.0; settles = r.1; stands = r.2; promises = r.3 } }
