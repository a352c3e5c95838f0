use Rattle.std.proofs.Common.{ℕ, ◌<◌, ◌↔◌, refl, subst, arith}
use Rattle.kripke.specs.Paths.{Trail}
use Rattle.merger.specs.declared.partition.Partition.{Partition}
use Rattle.merger.specs.Reaching.{On}
use Rattle.merger.specs.Starts.{Inner}
use Rattle.merger.proofs.opening.start.Goals as goal

pub close-requires : goal.close-requires
close-requires c =
    let labels = c.put_by_labels.ensures in
    let same = labels.numbers.same in
    let len = labels.len in
    record {
      low = λ p l. omega (arith, c.requires.sorted.low p (omega arith), len);
      each = λ k l. let p = c.requires.sorted.each k (omega arith) in (p.0, omega (arith, p.1, len), p.2);
      later = λ k l p d m near lp ld e f.
          let low = c.requires.sorted.low in
          let a : k < c.args.found.now.components = subst (λ x. x < c.args.found.now.components) e (low p (omega arith)) in
          let b : l < c.args.found.now.components = subst (λ x. x < c.args.found.now.components) f (low d (omega arith)) in
          c.requires.sorted.later k l p d m ((same k l a b).0 near) (omega arith) (omega arith) e f;
    }

pub returns : goal.returns
returns c =
    let P : Partition = c.put_by_labels.new.labels in
    let labels = c.put_by_labels.ensures in
    let len = labels.len in
    record {
      made = refl;
      settled = refl;
      classes = labels.numbers;
      items = labels.len;
      reach = λ k l h.
          let o = c.fill.ensures k l (omega arith) in
          let m = c.close.ensures k l (omega arith) in
          subst (λ n. On c.fill.new.self k l ↔ ((i : ℕ) × Trail (Inner c.args.found.now.moves P) (λ j. j < n) i k l)) labels.len
          ((λ e. m.0 (o.0 e)), (λ p. o.1 (m.1 p)));
    }
