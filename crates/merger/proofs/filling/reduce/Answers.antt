use Rattle.std.proofs.Common.{◌≡◌, ℕ, refl, ap, ◌∙◌, arith, rules}
use Rattle.sets.specs.Sets.{none}
use Rattle.kripke.specs.Numbering.{First}
use Rattle.kripke.proofs.Ranking.{first_one}
use Rattle.merger.specs.declared.partition.Partition.{Partition}
use Rattle.merger.specs.Grids.{at, set_at}
use Rattle.merger.proofs.Drawing.{Sketched, sketched_within, sketched_lands}
use Rattle.merger.proofs.filling.reduce.Goals as goal

sketched : (c : goal.After-table-2) → Sketched c.args.found.now c.args.rounds.now c.args.rows.now c.table.result c.table-2.result
sketched c =
    let P : Partition = c.args.rounds.now.partition in
    let few = P.few in
    let most = P.most in
    let items = c.requires.bounds.items in
    let count = c.classes.ensures in
    record {
      taken = λ i h.
          let w = (c.below-all.ensures i).1 (omega arith, omega arith) in
          let one : (k : ℕ) × First P.len (at P.class) i k × (at c.table.result i ≡ at c.args.found.now.facts k) = search (rules, c.table.ensures.made i 0 w) in
          let two : (k : ℕ) × First P.len (at P.class) i k × (set_at c.table-2.result i ≡ set_at c.args.rows.now k) = search (rules, c.table-2.ensures.made i none w) in
          let low = one.1.state in
          (one.0, omega arith, one.1.has, one.2, two.2 ∙ ap (set_at c.args.rows.now) (first_one P.len (at P.class) i two.0 one.0 two.1 one.1));
      blank_facts = λ i l. c.table.ensures.others i (λ h. let b = ((c.below-all.ensures i).0 h).0 in omega arith);
      blank_moves = λ i l. c.table-2.ensures.others i (λ h. let b = ((c.below-all.ensures i).0 h).0 in omega arith);
    }

pub invariant_of-result : goal.invariant_of-result
invariant_of-result c =
    let F = c.args.found.now in
    let S = c.args.rounds.now in
    let P : Partition = S.partition in
    let B = c.requires.bounds in
    let few = P.few in
    let most = P.most in
    let states = c.classes-2.ensures in
    record {
      few = omega arith;
      spoken = B.spoken;
      within = sketched_within F S c.args.rows.now _ _ B (sketched c);
      lands = λ s j h. let l = sketched_lands F S c.args.rows.now _ _ B (sketched c) c.requires.rows s j h in omega arith;
    }

pub returns : goal.returns
returns c = record { states = c.classes-2.ensures; words = refl; taken = (sketched c.before).taken }
