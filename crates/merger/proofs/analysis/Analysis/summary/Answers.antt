use Rattle.std.proofs.Common.{refl}
use Rattle.std.proofs.lemmas.Bool.{both_ways}
use Rattle.merger.specs.declared.analysis.Analysis.{Analysis}
use Rattle.merger.specs.Tables.{class_of, part}
use Rattle.merger.proofs.Promising.{tabled_settled}
use Rattle.merger.proofs.analysis.Analysis.summary.Goals as goal

pub returns : goal.returns
returns c =
    let a : Analysis = c.args.self.now in
    record {
      shut = λ e. absurd (both_ways _ e c.in_ok-check_opened.ensures);
      told = λ M r A.
          let T = A.tabled in
          record {
            states = T.surveyed.states;
            components = (part a.found, T.surveyed.components);
            labels = T.labels;
            rounds = T.made;
            classes = (class_of a.found a.rounds, rw c.classes.ensures T.classes);
            settled = tabled_settled M r a.found a.rounds T;
          };
      same = (refl, c.classes.ensures);
    }
