use Rattle.std.proofs.Common.{◌≡◌}
use Rattle.std.proofs.lemmas.Result.{err_from_is_err_and}
use Rattle.writing.specs.Saves.{Saved, SaveFault, space_of}
use Rattle.exported.proofs.Reducing.{filled}
use Rattle.exported.proofs.jobs.reduce_file.Goals as goal

pub returns-in_err-save-clause-answer : goal.returns-in_err-save-clause-answer
returns-in_err-save-clause-answer c =
    let p = err_from_is_err_and c.from_residual-in_err-save.result c.from_residual-in_err-save.ensures.1 in
    rw (p.1, p.2) (filled _ _ _ _ _ _ _ (λ K. SaveFault K (space_of c.args.out.now) c.in_err-save.field-0.0 × (c.save.new.buffer ≡ c.args.out.now))
    c.in_ok-settle_file.ensures.answer c.reduced.ensures c.in_err-save.ensures)

pub returns-clause-answer : goal.returns-clause-answer
returns-clause-answer c =
    filled _ _ _ _ _ _ _ (λ K. Saved K c.args.out.now c.save.new.buffer c.in_ok-save.field-0)
    c.in_ok-settle_file.ensures.answer c.reduced.ensures c.in_ok-save.ensures
