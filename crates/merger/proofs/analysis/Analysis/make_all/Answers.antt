use Rattle.std.proofs.Common.{◌≡◌, ◌+◌, List, length, sym, subst, arith}
use Rattle.merger.specs.Runs.{Answered}
use Rattle.merger.proofs.Rounding.{settling}
use Rattle.merger.proofs.Making.{Sofar, sofar_none, sofar_put, sofar_past, performed}
use Rattle.merger.proofs.analysis.Analysis.make_all.Goals as goal
use Rattle.merger.proofs.analysis.Analysis.make_all.Goals.{then-i-answers, else-i-answers}

pub loop-i-init : goal.loop-i-init
loop-i-init c M z S A = sofar_none M _ _ z S _ _ A

pub loop-i-preserved : goal.loop-i-preserved
loop-i-preserved c M z S A =
    let P = c.loop-i.invariant M z S A in
    let i = c.loop-i.i in
    let l = c.loop-i in
    let m = c.make-answer in
    let Is : List Answered → Type 0 = λ answers. Sofar M c.args.calls.now c.args.answers.now answers z m.new.self c.args.out.now m.new.out (i + 1) in
    elim c.if-i-answers.branch [
      | then-i-answers w ↦ subst Is (sym w.answers-is)
          (sofar_put M _ _ z S _ l.answers l.self m.new.self l.out m.new.out i c.loop-i-test.true P m.result m.ensures w.if-i-answers.true)
      | else-i-answers w ↦ subst Is (sym w.answers-is)
          (sofar_past M _ _ z S _ l.answers l.self m.new.self l.out m.new.out i c.loop-i-test.true P m.result m.ensures w.if-i-answers.false)
    ]

pub returns : goal.returns
returns c M A =
    let z = settling M _ A.tabled.surveyed in
    let l = c.loop-i in
    let e : l.i ≡ length c.args.calls.now = omega arith in
    performed M _ _ l.answers z.0 z.2 l.self _ l.out
    (subst (λ n. Sofar M c.args.calls.now c.args.answers.now l.answers z.0 l.self c.args.out.now l.out n) e (l.invariant M z.0 z.2 A))
