use Rattle.std.proofs.Common.{◌≡◌, length, ◌∙◌, arith, length-set}
use Rattle.merger.specs.Grids.{at}
use Rattle.merger.proofs.Gathering.{cut_more}
use Rattle.merger.proofs.reaching.narrow_rows.Goals as goal

pub loop-k-preserved : goal.loop-k-preserved
loop-k-preserved c =
    let class = c.args.classes.now.class in
    let i = c.loop-k.invariant in
    let S = c.in-Some.ensures.steps in
    let small = S.small in
    let long : length c.loop-k.rows ≡ 128 = i.2 in (
      tt,
      tt,
      length-set c.loop-k.rows _ _ ∙ long,
      cut_more c.args.rows.now (λ k j. at class j ≡ at class k) c.args.classes.now.len c.args.places c.loop-k.rows c.loop-k.k-iterator.left c.in-Some.k c.next.new.self.left _
          (omega arith) i.3 S c.clear_others.ensures,
    )
