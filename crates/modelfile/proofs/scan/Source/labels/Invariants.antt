use Rattle.modelfile.specs.Walks.{LabelsRead}
use Rattle.modelfile.proofs.scan.Source.labels.Given as goal

abbrev pub invariant-loop-label : goal.invariant-loop-label
invariant-loop-label l = LabelsRead l.self l.read l._label
