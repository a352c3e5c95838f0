use Rattle.std.proofs.Common.{ℕ, ◌⊎◌}
use Rattle.sets.specs.Sets.{In}
use Rattle.merger.specs.Grids.{set_at}
use Rattle.merger.proofs.tables.union.Given as goal

abbrev pub invariant-loop-s : goal.invariant-loop-s
invariant-loop-s l =
    goal.iterator-loop-s.can_next l.s-iterator × goal.iterator-loop-s.is_finite l.s-iterator ×
    ((s : ℕ) → In l.s-iterator.left s → In l.fn.places s) ×
    ((t : ℕ) → In l.all t → (s : ℕ) × In l.fn.places s × In (set_at l.sets s) t) ×
    ((s t : ℕ) → In l.fn.places s → In (set_at l.sets s) t → In l.s-iterator.left s ⊎ In l.all t)
