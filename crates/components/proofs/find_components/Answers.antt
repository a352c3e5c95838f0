use Rattle.std.proofs.Common.{rules}
use Rattle.components.proofs.Finding.{answers_front}
use Rattle.components.proofs.find_components.Goals as goal

pub returns : goal.returns
returns g c = answers_front (g.M.Model.means c.args.model.now) c.write_alike_rows.new.rows c.size-size.result c.size-size.ensures
    c.in_ok-check_room.ensures.0 (search rules) c.write_alike_rows.ensures _ _ _ _ _ _ _ c.find_in_rows.ensures
