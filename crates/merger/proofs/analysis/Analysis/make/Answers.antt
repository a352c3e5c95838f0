use Rattle.std.proofs.Common.{sym, subst}
use Rattle.merger.specs.declared.analysis.Analysis.{Analysis}
use Rattle.merger.specs.declared.reduced.Reduced.{Reduced}
use Rattle.merger.specs.declared.lists.Answer.TheVariants.{Made as WasMade, Ran as HasRun, Class as InClass, Together as AreTogether}
use Rattle.merger.specs.Runs.{CallAnswer}
use Rattle.merger.proofs.Making.{answer_is, filled_is, call_round, call_run, call_class, call_together, call_reduced}
use Rattle.merger.proofs.analysis.Analysis.make.Goals as goal

pub returns-in-Round : goal.returns-in-Round
returns-in-Round c =
    let a : Analysis = c.args.self.now in
    let x : Reduced = c.args.out.now in
    subst (λ k. CallAnswer a c.round.new.self x x k c.map.result) (sym c.in-Round.is)
    (call_round a c.round.new.self x c.round.result c.map.result (answer_is WasMade c.round.result c.map.result c.map.ensures.cases) c.round.ensures)

pub returns-in-Run : goal.returns-in-Run
returns-in-Run c =
    let a : Analysis = c.args.self.now in
    let x : Reduced = c.args.out.now in
    subst (λ k. CallAnswer a c.run.new.self x x k c.map-in-Run.result) (sym c.in-Run.is)
    (call_run a c.run.new.self x c.in-Run.budget c.run.result c.map-in-Run.result (answer_is HasRun c.run.result c.map-in-Run.result c.map-in-Run.ensures.cases) c.run.ensures)

pub returns-in-Class : goal.returns-in-Class
returns-in-Class c =
    let a : Analysis = c.args.self.now in
    let x : Reduced = c.args.out.now in
    subst (λ k. CallAnswer a a x x k c.map-in-Class.result) (sym c.in-Class.is)
    (call_class a x c.in-Class.s c.class.result c.map-in-Class.result (answer_is InClass c.class.result c.map-in-Class.result c.map-in-Class.ensures.cases) c.class.ensures)

pub returns-in-Together : goal.returns-in-Together
returns-in-Together c =
    let a : Analysis = c.args.self.now in
    let x : Reduced = c.args.out.now in
    subst (λ k. CallAnswer a a x x k c.map-in-Together.result) (sym c.in-Together.is)
    (call_together a x c.in-Together.s c.in-Together.t c.together.result c.map-in-Together.result (answer_is AreTogether c.together.result c.map-in-Together.result c.map-in-Together.ensures.cases) c.together.ensures)

pub returns-in-Reduced : goal.returns-in-Reduced
returns-in-Reduced c =
    let a : Analysis = c.args.self.now in
    let x : Reduced = c.args.out.now in
    subst (λ k. CallAnswer a a x c.reduced.new.out k c.and.result) (sym c.in-Reduced.is)
    (call_reduced a x c.reduced.new.out c.reduced.result c.and.result (filled_is c.reduced.result c.and.result c.and.ensures) c.reduced.ensures)
