use Rattle.std.proofs.Common.{◌≡◌, suc, ◌+◌, ◌<◌, true, subst, arith}
use Rattle.std.proofs.lemmas.Bool.{both_ways}
use Rattle.merger.specs.declared.analysis.Analysis.{Analysis}
use Rattle.merger.specs.Calls.{Analysed}
use Rattle.merger.proofs.Promising.{run_count, tabled_settled}
use Rattle.merger.proofs.Calling.{continues_run}
use Rattle.merger.proofs.analysis.Analysis.run.Goals as goal
use Rattle.merger.proofs.analysis.Analysis.run.Goals.{then-loop-rounds-test+else-not-self, else-loop-rounds-test}

pub loop-rounds-init : goal.loop-rounds-init
loop-rounds-init c = (c.in_ok-check_opened.ensures, omega arith, λ M r A. let e : r ≡ r + 0 = omega arith in subst (λ q. Analysed M q c.args.self.now) e A)

pub step-requires : goal.step-requires
step-requires c = (c.loop-rounds.invariant.0, c.if-not-self.true)

pub loop-rounds-preserved : goal.loop-rounds-preserved
loop-rounds-preserved c = (
  c.step.ensures.opened,
  omega arith,
  λ M r A.
      let k = c.loop-rounds.rounds in
      let e : suc (r + k) ≡ r + (k + 1) = omega arith in
      subst (λ q. Analysed M q c.step.new.self) e (c.step.ensures.more M (r + k) (c.loop-rounds.invariant.2 M r A)),
)

pub returns : goal.returns
returns c =
    let k = c.loop-rounds.rounds in
    let budget = c.args.budget in
    let i = c.loop-rounds.invariant in
    let up : k < budget → c.loop-rounds.self.rounds.settled ≡ true = elim c.loop-rounds-test.branch [
      | then-loop-rounds-test+else-not-self w ↦ λ h. w.if-not-self.false
      | else-loop-rounds-test w ↦ λ h. let o = w.loop-rounds-test.false in absurd (omega arith)
    ] in
    let a : Analysis = c.args.self.now in
    let b : Analysis = c.loop-rounds.self in
    record {
      shut = λ e. absurd (both_ways _ e c.in_ok-check_opened.ensures);
      told = λ M r A.
          let B = (i.2 M r A).tabled in
          let n = run_count M r k budget a.found a.rounds b.found b.rounds A.tabled B i.1 up in
          (n.0, n.1, n.2, tabled_settled M (r + k) b.found b.rounds B);
      refused = tt;
      continues = continues_run a b k budget i.2 i.1 up;
    }
