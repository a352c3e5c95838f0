use Rattle.writing.proofs.Giving.{begin_absurd, sets_fit, rows_fit, saved}
use Rattle.writing.proofs.saving.write_out.Goals as goal

pub returns-in_err-begun : goal.returns-in_err-begun
returns-in_err-begun g c = absurd (begin_absurd _ _ _ _ c.requires.1 c.size.ensures _ c.in_err-begun.ensures.answer.0)

pub give_sets-requires : goal.give_sets-requires
give_sets-requires g c = sets_fit _ _ _ _ c.requires.1 c.size.ensures _ _ c.in_ok-begun.ensures.answer c.begin.auto.buffer

pub give_rows-requires : goal.give_rows-requires
give_rows-requires g c =
    rows_fit _ _ _ _ c.requires.1 c.size.ensures _ _ c.in_ok-begun.ensures.answer c.begin.auto.buffer _ _ c.in_ok-sets.ensures c.give_sets.auto.buffer _ c.in_ok-turned.ensures.answer

pub returns : goal.returns
returns g c =
    saved _ _ _ _ c.requires.1 c.size.ensures _ _ c.in_ok-begun.ensures.answer c.begin.auto.buffer _ _ c.in_ok-sets.ensures c.give_sets.auto.buffer _ c.in_ok-turned.ensures.answer
    _ _ _ c.in_ok-rows.ensures c.in_ok-begun.ensures.holds c.in_ok-turned.ensures.holds c.in_ok-len.ensures.holds
