use Rattle.std.proofs.Common.{◌+◌, arith}
use Rattle.std.proofs.lemmas.List.{length-take-le}
use Rattle.modelfile.specs.Files.{offsets_of}
use Rattle.modelfile.specs.Loads.{held, Filled}
use Rattle.modelfile.proofs.Meaning.{fronts_mean}
use Rattle.modelfile.proofs.Denoting.{labels_stand, rows_fit, rows_stand}
use Rattle.modelfile.proofs.Filling.{front_placed, length_offsets}
use Rattle.modelfile.proofs.reading.load.Goals as goal

pub fill_rows-requires : goal.fill_rows-requires
fill_rows-requires c =
    let plan = rw c.room.ensures at c.in_ok-plan.ensures in
    let states = plan.states in
    let room = plan.denotes.held.0.0 in
    let more = plan.denotes.held.0.1 in
    let many = length-take-le c.in_ok-plan.plan.states c.args.tables.now.labels.now (omega arith) in
    let labels = c.fill_labels.ensures plan.labels _ (omega arith) (labels_stand _ _ _ _ plan.denotes _ plan.labels_at) in
    let so_many = length-take-le (c.in_ok-plan.plan.states + 1) c.args.tables.now.offsets.now (omega arith) in
    rows_fit _ _ _ _ plan.denotes _ _ labels.0 (omega arith)

pub returns-clause-loads : goal.returns-clause-loads
returns-clause-loads c =
    let plan = rw c.room.ensures at c.in_ok-plan.ensures in
    let states = plan.states in
    let room = plan.denotes.held.0.0 in
    let more = plan.denotes.held.0.1 in
    let each = plan.denotes.valid.each in
    let many = length-take-le c.in_ok-plan.plan.states c.args.tables.now.labels.now (omega arith) in
    let so_many = length-take-le (c.in_ok-plan.plan.states + 1) c.args.tables.now.offsets.now (omega arith) in
    let labels = c.fill_labels.ensures plan.labels _ (omega arith) (labels_stand _ _ _ _ plan.denotes _ plan.labels_at) in
    let rows = c.fill_rows.ensures plan.rows _ (omega arith) (rows_stand _ _ _ _ plan.denotes _ labels.0) in
    let filled : Filled (held c.args.tables.now) _ plan.labels plan.rows = record {
      labels_are = front_placed c.args.tables.now.labels.now _ plan.labels _ labels.1 states;
      offsets_are = front_placed c.args.tables.now.offsets.now _ (offsets_of plan.rows) _ rows.0 (omega (arith, length_offsets 0 plan.rows));
      targets_are = rows.1;
    } in
    record {
      labels = plan.labels;
      rows = plan.rows;
      denotes = plan.denotes;
      filled = filled;
      states = plan.states;
      targets = plan.targets;
      means = fronts_mean _ _ plan.labels plan.rows _ plan.denotes.valid filled plan.states plan.targets;
    }
