use Rattle.std.proofs.Common.{◌≡◌, ℕ, ◌∙◌, ◌↔◌, [], ⊎_elim, arith, rules}
use Rattle.sets.specs.Sets.{In}
use Rattle.sets.proofs.Bits.{in_dec}
use Rattle.merger.specs.Grids.{at, set_at}
use Rattle.merger.proofs.Blank.{blank, filled_more}
use Rattle.merger.proofs.reaching.fill_rows.Goals as goal

pub loop-k-preserved : goal.loop-k-preserved
loop-k-preserved c =
    let set = set_at c.args.sets.now c.loop-k.k in
    let row = c.write.new.table in
    let marks : (l : ℕ) → (at row l ≡ 1) ↔ In set l = λ l. (
      (λ e. ⊎_elim (λ h. h) (λ out. let o = c.write.ensures.others l 0 out ∙ blank 128 l 0 in absurd (omega arith)) (in_dec set.bits l)),
      (λ h. search (rules, c.write.ensures.made l 0 h)),
    ) in
    filled_more [] (λ k row. (j : ℕ) → (at row j ≡ 1) ↔ In (set_at c.args.sets.now k) j) c.loop-k.row-items c.loop-k.k row
    (omega (arith, c.loop-k-test.true, c.loop-k.auto.row-items)) c.loop-k.invariant marks
