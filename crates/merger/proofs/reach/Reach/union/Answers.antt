use Rattle.std.proofs.Common.{◌≡◌, ◌+◌, ◌*◌, ◌/◌, [], length, get_or, take, ap, ◌∙◌, subst, arith}
use Rattle.std.proofs.lemmas.List.{length-take}
use Rattle.merger.specs.Grids.{at}
use Rattle.merger.proofs.Gathering.{Gathered, in_chunks, gathered_more}
use Rattle.merger.proofs.reach.Reach.union.Goals as goal

pub union_eight-all-requires-clause-marks : goal.union_eight-all-requires-clause-marks
union_eight-all-requires-clause-marks c i low e =
    let block = c.loop-block.block in
    let row = get_or c.args.self.now.rows c.args.k [] in
    let blocks = c.div_ceil.result in
    let test = c.loop-block-test.true in
    let wide = length-take blocks c.as_chunks.result.0.now in
    let eights = c.as_chunks.ensures.front_len in
    let here = ap (λ x. at (get_or (take blocks x) block []) i) c.as_chunks.ensures.front
    ∙ in_chunks 8 (length row / 8) blocks row block i (omega arith) (omega arith) low in
    c.word_of.ensures i low (here ∙ e)

pub loop-block-preserved : goal.loop-block-preserved
loop-block-preserved c =
    let row = get_or c.args.self.now.rows c.args.k [] in
    let n = c.loop-block.block * 8 in
    let more : n + 8 ≡ (c.loop-block.block + 1) * 8 = omega arith in
    subst (λ m. Gathered c.union_eight-all.result row c.args.sets.now m) more
    (gathered_more row c.args.sets.now c.loop-block.all c.union_eight-all.result n c.loop-block.invariant c.union_eight-all.ensures)
