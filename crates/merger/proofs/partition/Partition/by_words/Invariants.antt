use Rattle.std.proofs.Common.{◌≡◌, ℕ, ◌<◌}
use Rattle.sets.specs.Sets.{In}
use Rattle.kripke.specs.Numbering.{Numbering}
use Rattle.merger.specs.Grids.{at, slot}
use Rattle.merger.proofs.partition.Partition.by_words.Given as goal

abbrev pub invariant-loop-k : goal.invariant-loop-k
invariant-loop-k l = record {
  items : l.self.len ≡ l.k;
  numbers : Numbering (λ i j. at l.words i ≡ at l.words j) l.k (at l.self.class) l.self.classes;
  seen : (j : ℕ) → j < l.k → In l.seen (slot (at l.words j));
}
