use Rattle.std.proofs.Common.{◌≡◌, ◌^◌, ◌<◌, subst, arith, rules}
use Rattle.writing.specs.Savings.{SetsGiven}
use Rattle.writing.proofs.Giving.{sets_none, sets_more, set_absurd}
use Rattle.writing.proofs.saving.give_sets.Goals as goal

pub loop-s-init : goal.loop-s-init
loop-s-init g c = sets_none _ _ _ c.requires.states c.requires.none

pub returns-in_err-sets : goal.returns-in_err-sets
returns-in_err-sets g c =
    let M = g.M.Model.means c.args.model.now in
    let wide : c.facts.result.bits < 2 ^ 64 = search rules in
    absurd (set_absurd M _ _ _ _ _ c.facts.result _ c.requires c.loop-s.invariant c.loop-s.auto.buffer (omega arith) wide c.facts.ensures c.in_err-sets.ensures.answer.0.because)

pub loop-s-preserved : goal.loop-s-preserved
loop-s-preserved g c =
    let M = g.M.Model.means c.args.model.now in
    let wide : c.facts.result.bits < 2 ^ 64 = search rules in
    let fits = c.requires.fits in
    let done = c.in_ok-sets.ensures in
    sets_more M _ _ _ _ _ _ _ c.facts.result (omega arith) c.loop-s.invariant wide c.facts.ensures done.answer done.holds

pub returns : goal.returns
returns g c =
    let M = g.M.Model.means c.args.model.now in
    let all : c.loop-s.s ≡ M.frame.size = omega arith in
    subst (λ k. SetsGiven M c.args.buffer.now c.loop-s.buffer c.args.start k c.loop-s.sets) all c.loop-s.invariant
