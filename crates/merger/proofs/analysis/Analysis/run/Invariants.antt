use Rattle.std.proofs.Common.{◌≡◌, ℕ, ◌+◌, ◌-◌, ◌≤◌, true}
use Rattle.kripke.specs.Models.{Kripke}
use Rattle.merger.specs.Calls.{Analysed}
use Rattle.merger.proofs.analysis.Analysis.run.Given as goal

abbrev pub invariant-loop-rounds : goal.invariant-loop-rounds
invariant-loop-rounds l =
    (l.self.opened ≡ true) × (l.rounds ≤ l.budget) ×
    ((M : Kripke) (r : ℕ) → Analysed M r l.initial.self → Analysed M (r + l.rounds) l.self)

abbrev pub decreases-loop-rounds : goal.decreases-loop-rounds
decreases-loop-rounds l = l.budget - l.rounds
