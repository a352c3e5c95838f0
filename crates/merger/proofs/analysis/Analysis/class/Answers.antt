use Rattle.std.proofs.Common.{refl, ◌∙◌, arith}
use Rattle.std.proofs.lemmas.Bool.{both_ways}
use Rattle.merger.specs.declared.partition.Partition.{Partition}
use Rattle.merger.specs.Tables.{part}
use Rattle.merger.specs.declared.analysis.Analysis.{Analysis}
use Rattle.merger.proofs.Rounding.{meant_bounded}
use Rattle.merger.proofs.Promising.{tabled_class}
use Rattle.merger.proofs.Calling.{promises}
use Rattle.merger.proofs.analysis.Analysis.class.Goals as goal

pub returns-then-s-self : goal.returns-then-s-self
returns-then-s-self c =
    let a : Analysis = c.args.self.now in
    record {
      shut = λ e. absurd (both_ways _ e c.in_ok-check_opened.ensures);
      told = λ M r A.
          let n = A.tabled.surveyed.states in
          let past = c.if-s-self.true in
          record { outside = λ h. (refl, refl); told = λ h. absurd (omega arith) };
      class = tt;
      promises = λ M r A. promises M r a A;
    }

pub bounds-self-s : goal.bounds-self-s
bounds-self-s c =
    let B = meant_bounded _ _ (c.args.self.now.meant c.in_ok-check_opened.ensures) in
    let low = c.if-s-self.false in omega (arith, B.wide)

pub class_of-requires : goal.class_of-requires
class_of-requires c =
    let B = meant_bounded _ _ (c.args.self.now.meant c.in_ok-check_opened.ensures) in
    omega (arith, B.parts c.args.s c.if-s-self.false, B.items)

pub overflow_cast-result : goal.overflow_cast-result
overflow_cast-result c =
    let a : Analysis = c.args.self.now in
    let P : Partition = a.rounds.partition in
    let B = meant_bounded _ _ (a.meant c.in_ok-check_opened.ensures) in
    let low = P.low (part a.found c.args.s) (omega (arith, B.parts c.args.s c.if-s-self.false, B.items)) in
    let most = P.most in
    let few = P.few in
    let e = c.class_of.ensures in
    omega arith

pub returns : goal.returns
returns c =
    let a : Analysis = c.args.self.now in
    let s = c.args.s in
    record {
      shut = λ e. absurd (both_ways _ e c.in_ok-check_opened.ensures);
      told = λ M r A.
          let n = A.tabled.surveyed.states in
          let low = c.if-s-self.false in
          record {
            outside = λ h. absurd (omega arith);
            told = λ h f m N. c.class_of.ensures ∙ tabled_class M r a.found a.rounds A.tabled f m N s h;
          };
      class = c.class_of.ensures;
      promises = λ M r A. promises M r a A;
    }
