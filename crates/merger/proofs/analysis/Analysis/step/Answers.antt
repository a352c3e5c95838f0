use Rattle.merger.proofs.Rounding.{meant_bounded, meant_advanced, tabled_advanced}
use Rattle.merger.proofs.analysis.Analysis.step.Goals as goal

pub advance-requires : goal.advance-requires
advance-requires c = meant_bounded _ _ (c.args.self.now.meant c.requires.0)

pub invariant_of-self : goal.invariant_of-self
invariant_of-self c = record { meant = λ e. meant_advanced _ _ (c.args.self.now.meant e) _ c.requires.1 c.advance.ensures }

pub returns : goal.returns
returns c = record {
  opened = c.requires.0;
  more = λ M r A. record { opened = c.requires.0; tabled = tabled_advanced M r _ _ A.tabled _ c.requires.1 c.advance.ensures };
}
