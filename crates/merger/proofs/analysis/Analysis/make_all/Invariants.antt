use Rattle.std.proofs.Common.{ℕ}
use Rattle.kripke.specs.Models.{Kripke}
use Rattle.kripke.specs.Relation.{Settles}
use Rattle.merger.specs.Calls.{Analysed}
use Rattle.merger.proofs.Making.{Sofar}
use Rattle.merger.proofs.analysis.Analysis.make_all.Given as goal

abbrev pub invariant-loop-i : goal.invariant-loop-i
invariant-loop-i l =
    (M : Kripke) (z : ℕ) → Settles M z → Analysed M 0 l.initial.self → Sofar M l.calls l.initial.answers l.answers z l.self l.initial.out l.out l.i
