use Rattle.exported.proofs.Listing.{model_listed}
use Rattle.exported.proofs.jobs.merge.Goals as goal

pub returns : goal.returns
returns g c = model_listed _ _ _ _ (c.list.ensures _ c.in_ok-settle.ensures)
