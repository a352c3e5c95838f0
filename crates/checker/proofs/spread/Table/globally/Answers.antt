use Rattle.std.proofs.Common.{◌≡◌, ℕ, ◌↔◌, sym, ◌∙◌, subst, arith}
use Rattle.std.proofs.lemmas.Bool.{eqb-true}
use Rattle.sets.specs.Sets.{In, bit}
use Rattle.checker.specs.Tables.{Feeds}
use Rattle.checker.proofs.Spreads.{lasts_more, lasts_all}
use Rattle.checker.proofs.spread.Table.globally.Goals as goal

pub loop-turn-preserved : goal.loop-turn-preserved
loop-turn-preserved c =
    lasts_more c.args.self.now.rows.now c.args.self.now.n c.args.f c.args.self.now.closed c.loop-turn._turn c.loop-turn.left c.before-fewer.result
    c.loop-turn.invariant c.before-fewer.ensures

pub returns-then-eq : goal.returns-then-eq
returns-then-eq c =
    lasts_all c.args.self.now.rows.now c.args.self.now.n c.args.f c.args.self.now.closed c.loop-turn._turn c.loop-turn.left (omega arith) c.loop-turn.invariant
    (λ s. subst (λ (y : ℕ). (bit y s ≡ 1) ↔ (In c.args.f s × Feeds c.args.self.now.rows.now c.loop-turn.left c.args.self.now.n s))
    (eqb-true _ _ (sym c.eq.ensures ∙ c.if-eq.true))
    (c.before-fewer.ensures s))
