use Rattle.std.proofs.Common.{◌≡◌, ℕ, ◌+◌, ◌-◌, ◌/◌, ◌^◌, ◌<◌, bit_and, sym, refl, subst, arith, rules}
use lib.Count.{count_trailing_zeros}
use Rattle.sets.specs.declared.Set.{Set}
use Rattle.sets.proofs.Bits.{On, in_and, Lowest, lowest}
use Rattle.merger.proofs.Gathering.{Adding, adding_off, adding_on, adding_all}
use Rattle.merger.proofs.reaching.union_eight.Goals as goal
use Rattle.merger.proofs.reaching.union_eight.Goals.{then-row-l-eq1, else-row-l-eq1}

pub loop-left-preserved : goal.loop-left-preserved
loop-left-preserved c =
    let row = c.args.row.now in
    let sets = c.args.sets.now in
    let all = c.args.all in
    let from = c.args.from in
    let left = c.loop-left.left in
    let next = bit_and left (left - 1) in
    let fits : left < 2 ^ 64 = search rules in
    let some : 0 < left = let n = c.loop-left-test.true in omega arith in
    let p = count_trailing_zeros 64 left in
    let L : Lowest 64 left p = lowest 64 left some fits in
    let others : (j : ℕ) → On left j → (j ≡ p → ⊥) → On next j = λ j h n. (in_and left (left - 1) j).1 ((L.others j).1 (h, n)) in
    elim c.if-row-l-eq1.branch [
      | then-row-l-eq1 w ↦ subst (λ (x : Set). Adding row sets all x from next) (sym w.more-is)
          (adding_on row sets all c.loop-left.more from left next p (from + p / 8) c.loop-left.invariant L.small refl others w.or-more.result w.if-row-l-eq1.true w.or-more.ensures.means)
      | else-row-l-eq1 w ↦ subst (λ (x : Set). Adding row sets all x from next) (sym w.more-is)
          (adding_off row sets all c.loop-left.more from left next p (from + p / 8) c.loop-left.invariant L.small refl others w.if-row-l-eq1.false)
    ]

pub returns : goal.returns
returns c =
    let row = c.args.row.now in
    let sets = c.args.sets.now in
    let end : c.loop-left.left ≡ 0 = let n = c.loop-left-test.false in omega arith in
    adding_all row sets c.args.all c.loop-left.more c.args.from (subst (λ i. Adding row sets c.args.all c.loop-left.more c.args.from i) end c.loop-left.invariant)
