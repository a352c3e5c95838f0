use Rattle.writing.proofs.Trips.{closed_loads_back, saved_loads_back, loaded_saves_back, one_saving}
use Rattle.writing.proofs.saving.trip_laws.Goals as goal

pub returns : goal.returns
returns c = record { closed = closed_loads_back; saved = saved_loads_back; loaded = loaded_saves_back; single = one_saving }
