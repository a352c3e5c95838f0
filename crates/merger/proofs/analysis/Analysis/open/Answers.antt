use Rattle.std.proofs.Common.{refl, arith, rules}
use Rattle.std.proofs.lemmas.Result.{err_from_is_err_and}
use Rattle.kripke.proofs.Ranking.{ranked_few}
use Rattle.merger.specs.Tables.{part}
use Rattle.merger.proofs.Promising.{tabled_promise}
use Rattle.merger.proofs.Starting.{early, begun}
use Rattle.merger.proofs.analysis.Analysis.open.Goals as goal

pub returns-in_err-size : goal.returns-in_err-size
returns-in_err-size g c =
    let p = err_from_is_err_and c.from_residual.result c.from_residual.ensures.1 in
    let q = c.in_err-size.ensures in
    rw (p.1, p.2) ((q.0, early (g.M.Model.means c.args.model.now) _ _ _ q.0 q.1), refl, refl, refl)

pub start-requires : goal.start-requires
start-requires g c =
    let M = g.M.Model.means c.args.model.now in
    let O = c.look_over-order.ensures.surveyed in
    let few = ranked_few M.frame.size c.look_over-order.new.found.components (part c.look_over-order.new.found) O.components.ranked in
    let small = O.admitted.0.1 in
    record { few = omega arith; sorted = c.look_over-order.ensures.sorted }

pub invariant_of-self : goal.invariant_of-self
invariant_of-self g c = record { meant = λ e. ∣ (g.M.Model.means c.args.model.now, 0, begun _ _ _ _ c.classes-self.ensures c.look_over-order.ensures.surveyed c.start.ensures) ∣₁ }

pub returns : goal.returns
returns g c =
    let M = g.M.Model.means c.args.model.now in
    let T = begun M c.look_over-order.new.found c.start.new.rounds c.classes-self.result c.classes-self.ensures c.look_over-order.ensures.surveyed c.start.ensures in
    let e = c.in_ok-size.ensures.0 in (
      record {
        admitted = search rules;
        roomy = (omega arith, omega arith);
        states = T.surveyed.states;
        components = (part c.look_over-order.new.found, T.surveyed.components);
        labels = T.labels;
      },
      record { opened = refl; tabled = T },
      tabled_promise M 0 _ _ T,
    )
