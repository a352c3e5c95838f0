use Rattle.components.proofs.Finding.{finds_in}
use Rattle.components.proofs.find_in_rows.Goals as goal

pub returns : goal.returns
returns c = (c.in_ok-check_room.ensures, finds_in _ _ c.walk_all.ensures _ _ _ c.number.ensures)
