use Rattle.std.proofs.Common.{refl, arith}
use Rattle.std.proofs.lemmas.Bool.{both_ways}
use Rattle.merger.specs.declared.partition.Partition.{Partition}
use Rattle.merger.specs.declared.analysis.Analysis.{Analysis}
use Rattle.sets.specs.Sets.{none}
use Rattle.merger.proofs.Blank.{blank}
use Rattle.merger.proofs.Rounding.{meant_bounded}
use Rattle.merger.proofs.Promising.{tabled_settled}
use Rattle.merger.proofs.Drawing.{outlook_low, drawn_fills}
use Rattle.merger.proofs.analysis.Analysis.reduced.Goals as goal

pub returns-then-not-self : goal.returns-then-not-self
returns-then-not-self c =
    let a : Analysis = c.args.self.now in
    record {
      shut = λ e. absurd (both_ways _ e c.in_ok-check_opened.ensures);
      told = λ M r A. record {
        going = λ n. ((refl, refl), refl);
        settled = λ z. absurd (both_ways _ c.if-not-self.true ((tabled_settled M r a.found a.rounds A.tabled).1 z));
      };
      refused = refl;
    }

pub write_outlooks-requires : goal.write_outlooks-requires
write_outlooks-requires c =
    let B = meant_bounded _ _ (c.args.self.now.meant c.in_ok-check_opened.ensures) in
    let P : Partition = c.args.self.now.rounds.partition in
    let few = P.few in
    let items = B.items in
    let w = c.below.ensures in
    record {
      wanted = λ k h. omega (arith, ((w k).0 h).0);
      inside = λ k h to m. omega (arith, B.moves k to ((w k).0 h).0 m);
      closed = λ k l h b o. (w l).1 (omega arith, omega arith);
      blank = λ k. blank 128 k none;
    }

pub reduce-requires : goal.reduce-requires
reduce-requires c =
    let B = meant_bounded _ _ (c.args.self.now.meant c.in_ok-check_opened.ensures) in
    let P : Partition = c.args.self.now.rounds.partition in
    let few = P.few in
    let items = B.items in
    record {
      bounds = B;
      rows = λ k i h o. outlook_low _ _ B k i ((c.write_outlooks.ensures k ((c.below.ensures k).1 (h, omega arith)) i).0 o);
    }

pub returns : goal.returns
returns c =
    let a : Analysis = c.args.self.now in
    let B = meant_bounded _ _ (a.meant c.in_ok-check_opened.ensures) in
    let P : Partition = a.rounds.partition in
    let few = P.few in
    let items = B.items in
    record {
      shut = λ e. absurd (both_ways _ e c.in_ok-check_opened.ensures);
      told = λ M r A. record {
        going = λ n. absurd (n ((tabled_settled M r a.found a.rounds A.tabled).0 c.if-not-self.false));
        settled = λ z. drawn_fills M r a.found a.rounds A.tabled c.if-not-self.false c.write_outlooks.new.rows
            (λ k h. c.write_outlooks.ensures k ((c.below.ensures k).1 (h, omega arith))) c.reduce.result c.reduce.ensures;
      };
      refused = tt;
    }
