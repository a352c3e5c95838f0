use Rattle.std.proofs.Common.{◌≡◌, ◌+◌, ◌-◌, ◌^◌, min, refl, ap, ◌∙◌, arith}
use Rattle.second.proofs.Totals.{more_state, all_states}
use Rattle.second.proofs.tables.SmallModels.of.Goals as goal

pub loop-number-init : goal.loop-number-init
loop-number-init c = rw c.new-possible.ensures.items refl

pub loop-number-preserved : goal.loop-number-preserved
loop-number-preserved c =
    rw c.in_ok-push.ensures.items
    (more_state c.args.size c.loop-number.number c.loop-number.possible.items (record { label = c.from-label.result; moves = c.in_ok-moves.moves }) c.loop-number.auto.number c.loop-number.invariant (λ i. (c.from-label.ensures i, c.in_ok-moves.ensures i)))

pub returns : goal.returns
returns c few =
    let more : c.saturating_add.result ≡ c.args.size + 1 = omega (arith, c.saturating_add.ensures, c.from.ensures, few) in
    c.loop-number.invariant
    ∙ all_states c.args.size c.saturating_pow-number-end.result c.loop-number.number few
    (c.saturating_pow-number-end.ensures ∙ ap (λ k. min (2 ^ k) (2 ^ 32 - 1)) more)
    c.loop-number-test.false c.loop-number.auto.number-end
