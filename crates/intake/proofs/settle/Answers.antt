use Rattle.intake.proofs.settle.Goals as goal

pub returns : goal.returns
returns c =
    let t = c.in_ok-settle.ensures.answer in
    record {
      labels = t.labels;
      rows = t.rows;
      rounds = t.are.rounds;
      settles = t.are.settles;
      stands = t.are.stands;
      promises = t.are.promises;
      denotes = simp (c.lend.ensures.labels, c.lend.ensures.offsets, c.lend.ensures.targets) at t.held.denotes;
    }
