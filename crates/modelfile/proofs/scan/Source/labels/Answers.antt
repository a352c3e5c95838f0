use Rattle.std.proofs.Common.{refl, arith}
use Rattle.std.proofs.lemmas.Result.{err_from_is_err_and}
use Rattle.modelfile.specs.FirstFault.{at_label}
use Rattle.modelfile.proofs.Walking.{labels_more, stops}
use Rattle.modelfile.proofs.scan.Source.labels.Goals as goal

pub loop-label-preserved : goal.loop-label-preserved
loop-label-preserved c = labels_more _ _ _ _ _ c.loop-label.invariant (omega arith) c.in_ok-_facts.ensures refl

pub returns-in_err-_facts : goal.returns-in_err-_facts
returns-in_err-_facts c =
    let read = c.loop-label.invariant in
    let many = read.many in
    let p = err_from_is_err_and c.from_residual.result c.from_residual.ensures.1 in
    rw (p.1, p.2)
    (stops _ _ (at_label c.args.self.now.states read.labels) _ _ c.args.self.now.short read.reached (omega arith, c.in_err-_facts.ensures))
