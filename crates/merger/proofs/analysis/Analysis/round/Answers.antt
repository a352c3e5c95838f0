use Rattle.std.proofs.Common.{refl}
use Rattle.std.proofs.lemmas.Bool.{both_ways}
use Rattle.merger.specs.declared.analysis.Analysis.{Analysis}
use Rattle.merger.specs.Tables.{class_of}
use Rattle.merger.proofs.Promising.{tabled_settled}
use Rattle.merger.proofs.Calling.{continues_still, continues_step}
use Rattle.merger.proofs.analysis.Analysis.round.Goals as goal

pub returns-then-self : goal.returns-then-self
returns-then-self c =
    let a : Analysis = c.args.self.now in
    record {
      shut = λ e. absurd (both_ways _ e c.in_ok-check_opened.ensures);
      told = λ M r A. record {
        settled = λ z. (refl, refl);
        made = λ going. absurd (going ((tabled_settled M r a.found a.rounds A.tabled).0 c.if-self.true));
      };
      refused = refl;
      continues = continues_still a 1 c.if-self.true;
    }

pub returns : goal.returns
returns c =
    let a : Analysis = c.args.self.now in
    let b : Analysis = c.step.new.self in
    record {
      shut = λ e. absurd (both_ways _ e c.in_ok-check_opened.ensures);
      told = λ M r A.
          let B = (c.step.ensures.more M r A).tabled in
          record {
            settled = λ z. absurd (both_ways _ c.if-self.false ((tabled_settled M r a.found a.rounds A.tabled).1 z));
            made = λ going. (B.made, (class_of b.found b.rounds, rw c.classes.ensures B.classes), tabled_settled M _ b.found b.rounds B);
          };
      refused = tt;
      continues = continues_step a b c.if-self.false c.step.ensures.more;
    }
