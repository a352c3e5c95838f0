use Rattle.exported.proofs.Listing.{file_listed}
use Rattle.exported.proofs.jobs.merge_file.Goals as goal

pub returns-clause-answer : goal.returns-clause-answer
returns-clause-answer c = file_listed _ _ _ _ _ _ _ c.in_ok-settle_file.ensures.answer c.list.ensures
