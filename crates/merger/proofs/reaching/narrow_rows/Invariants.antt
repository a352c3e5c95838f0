use Rattle.std.proofs.Common.{◌≡◌, length}
use Rattle.merger.specs.Grids.{at}
use Rattle.merger.proofs.Gathering.{Cut}
use Rattle.merger.proofs.reaching.narrow_rows.Given as goal

abbrev pub invariant-loop-k : goal.invariant-loop-k
invariant-loop-k l =
    goal.iterator-loop-k.can_next l.k-iterator × goal.iterator-loop-k.is_finite l.k-iterator × (length l.rows ≡ 128) ×
    Cut l.initial.rows l.rows (λ k j. at l.classes.class j ≡ at l.classes.class k) l.classes.len l.fn.places l.k-iterator.left
