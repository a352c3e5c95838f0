use Rattle.std.proofs.Common.{rules}
use Rattle.modelfile.proofs.Short.{row_copied, row_inside, row_wide}
use Rattle.modelfile.proofs.fill.fill_row.Goals as goal

pub read_row-requires : goal.read_row-requires
read_row-requires c = row_wide _ _ _ _ c.requires

pub slice_bounds-copy_row-end : goal.slice_bounds-copy_row-end
slice_bounds-copy_row-end c = let inside = row_inside _ _ _ _ c.requires c.if-states.false in search rules

pub returns : goal.returns
returns c ts next many seq = row_copied _ _ _ _ c.requires c.if-states.false _ ts next c.copy_row.ensures many seq
