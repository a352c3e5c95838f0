use Rattle.std.proofs.Common.{◌-◌, length, refl, arith, rules}
use Rattle.modelfile.proofs.Filling.{RowThere, ends_many, rows_none, row_there, rows_step, rows_all}
use Rattle.modelfile.proofs.fill.fill_rows.Goals as goal
use Rattle.modelfile.proofs.fill.fill_rows.Goals.{After-number}

pub loop-offset-init : goal.loop-offset-init
loop-offset-init c rows next many seq = rows_none _ _ _ rows _ next seq

-- the row of which the degree is read
there : (c : After-number) → RowThere c.args.file.now c.loop-offset.targets c.loop-offset.end c.number.result c.number.new.at (length c.args.offsets.now - 1)
there c = row_there _ _ _ _ _ _ _ _ _ _ _ c.requires c.loop-offset.invariant c.loop-offset-test.true c.number.ensures

pub overflow_add-end : goal.overflow_add-end
overflow_add-end c = let few = (there (goal.at.overflow_add-end c).After-number).few in search rules

pub offset_bounds-targets-begin : goal.offset_bounds-targets-begin
offset_bounds-targets-begin c = let few = (there (goal.at.offset_bounds-targets-begin c).After-number).few in search rules

pub slice_bounds-fill_row-end : goal.slice_bounds-fill_row-end
slice_bounds-fill_row-end c = let held = (there (goal.at.slice_bounds-fill_row-end c).After-number).held in search rules

pub fill_row-requires : goal.fill_row-requires
fill_row-requires c = (there (goal.at.fill_row-requires c).After-number).fits

pub overflow_cast-offset : goal.overflow_cast-offset
overflow_cast-offset c = let few = (there (goal.at.overflow_cast-offset c).After-number).few in search rules

pub loop-offset-preserved : goal.loop-offset-preserved
loop-offset-preserved c rows next many seq =
    let held = (there (goal.at.loop-offset-preserved c).After-number).held in
    rows_step _ _ _ _ _ rows _ _ _ next (c.loop-offset.invariant rows next many seq) (omega arith) _ _ _ _ _ many held c.number.ensures refl c.fill_row.ensures

pub returns : goal.returns
returns c rows next many seq =
    let so_many = ends_many c.args.offsets.now (omega arith) in
    rows_all _ _ _ _ _ rows _ _ _ _ next many (omega arith) (omega arith) (c.loop-offset.invariant rows next (omega arith) seq)
