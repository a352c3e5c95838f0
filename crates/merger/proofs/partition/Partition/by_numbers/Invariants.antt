use Rattle.std.proofs.Common.{◌≡◌, ℕ, ◌<◌}
use Rattle.kripke.specs.Numbering.{Ranked}
use Rattle.merger.specs.Grids.{at}
use Rattle.merger.proofs.partition.Partition.by_numbers.Given as goal

abbrev pub invariant-loop-class : goal.invariant-loop-class
invariant-loop-class l = record {
  items : l.self.len ≡ l.class-index;
  same : (j : ℕ) → j < l.class-index → at l.self.class j ≡ at l.number j;
  ranked : Ranked l.class-index (at l.self.class) l.self.classes;
}
