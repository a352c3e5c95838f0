use Rattle.std.proofs.Common.{sym, inl, inr, ◌∙◌, arith, below_more}
use Rattle.sets.specs.Sets.{In}
use Rattle.merger.specs.declared.partition.Partition.{Partition}
use Rattle.merger.specs.Grids.{at, slot}
use Rattle.merger.proofs.Placing.{words_old, words_new}
use Rattle.merger.proofs.partition.Partition.by_words.Goals as goal
use Rattle.merger.proofs.partition.Partition.by_words.Goals.{in-Some, in-None}

pub loop-k-preserved : goal.loop-k-preserved
loop-k-preserved c =
    let words = c.args.words.now in
    let P : Partition = c.loop-k.self in
    let P' : Partition = c.put.new.self in
    let k = c.loop-k.k in
    let i = c.loop-k.invariant in
    let m = c.match-first_like in
    let e = c.put.ensures in
    record {
      items = let items = i.items in let len = e.len in omega arith;
      numbers = elim m.branch [
        | in-Some w ↦ words_old words P P' k m.into i.items i.numbers e.classes e.last e.others w.in-Some.j w.in-Some.ensures.0 w.in-Some.ensures.1 (w.into-is ∙ w.class_of-into.ensures)
        | in-None w ↦ words_new words P P' k m.into i.items i.numbers e.classes e.last e.others w.in-None.ensures (w.into-is ∙ w.classes-into.ensures)
      ];
      seen = below_more (λ j. In c.with-seen.result (slot (at words j))) k
          (λ j l. (c.with-seen.ensures (slot (at words j))).1 (inl (i.seen j l)))
          ((c.with-seen.ensures (slot (at words k))).1 (inr (sym c.slot_of.ensures, omega (arith, c.slot_of.ensures))));
    }
