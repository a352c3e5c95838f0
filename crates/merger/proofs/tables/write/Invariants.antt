use Rattle.std.proofs.Common.{◌≡◌, ℕ, ◌⊎◌, get_or}
use Rattle.sets.specs.Sets.{In}
use Rattle.merger.proofs.tables.write.Given as goal

abbrev pub invariant-loop-k : goal.invariant-loop-k
invariant-loop-k g l =
    (goal.iterator-loop-k g).can_next l.k-iterator × (goal.iterator-loop-k g).is_finite l.k-iterator ×
    ((k : ℕ) → In l.k-iterator.left k → In l.fn.places k) ×
    ((k : ℕ) (d : _) → In l.fn.places k → In l.k-iterator.left k ⊎ goal.F-post g l.make k (get_or l.table k d)) ×
    ((k : ℕ) (d : _) → (In l.fn.places k → ⊥) → get_or l.table k d ≡ get_or l.initial.table k d)
