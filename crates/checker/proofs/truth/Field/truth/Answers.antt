use Rattle.std.proofs.Common.{rules, arith}
use Rattle.std.proofs.lemmas.List.{length-drop}
use Rattle.checker.specs.Reading.{takes, step_at}
use Rattle.checker.proofs.Stacks.{stands, stacked_more, one_left, whole}
use Rattle.checker.proofs.truth.Field.truth.Goals as goal

pub apply-made-requires : goal.apply-made-requires
apply-made-requires g c =
    let fine = c.requires.1 c.loop-step.step-index (omega arith) in
    omega (arith, fine.1, (stands _ _ _ _ c.loop-step.invariant).0)

pub unwrap-requires : goal.unwrap-requires
unwrap-requires g c =
    let few = stands _ _ _ _ c.loop-step.invariant in
    let short = c.requires.0.1 in
    let room = c.loop-step.invariant.room in
    let left = length-drop (takes (step_at c.args.steps.now c.loop-step.step-index)) c.loop-step.operands.held in
    search (rules, arith, few, short, room, left)

pub loop-step-preserved : goal.loop-step-preserved
loop-step-preserved g c =
    let fine = c.requires.1 c.loop-step.step-index (omega arith) in
    stacked_more _ _ _ _ _ _ (omega arith) (omega (arith, fine.1, (stands _ _ _ _ c.loop-step.invariant).0)) c.loop-step.invariant c.apply-made.ensures.made (search rules)

pub unwrap-requires-2 : goal.unwrap-requires-2
unwrap-requires-2 g c =
    let one = one_left _ _ _ _ c.loop-step.invariant (omega arith) c.requires.2 in
    search (rules, arith, one)

pub returns : goal.returns
returns g c =
    let all = whole _ _ _ _ c.loop-step.invariant (omega arith) c.requires.2 in
    search (rules, all)
