use Rattle.exported.proofs.Listing.{listed}
use Rattle.exported.proofs.jobs.list.Goals as goal

pub returns : goal.returns
returns c M settled = rw (c.ok_or.ensures.value, c.ok.ensures.value) (listed M _ _ _ _ settled c.listing.ensures)
