use Rattle.std.proofs.Common.{◌≡◌, ℕ, sym, ◌∙◌, subst, inl, inr, ⊎_elim}
use Rattle.std.proofs.lemmas.Bool.{eqb-true}
use Rattle.sets.specs.Sets.{bit}
use Rattle.checker.proofs.Spreads.{until_all, until_more}
use Rattle.checker.proofs.spread.Table.until.Goals as goal

pub returns-then-eq : goal.returns-then-eq
returns-then-eq c s h = (
  c.grow.invariant.1 s,
  λ p. until_all c.args.self.now.rows.now c.args.self.now.n c.args.f c.args.self.now.closed c.args.g c.grow.found c.grow.invariant.0
      (λ t q. subst (λ (y : ℕ). bit y t ≡ 1) (eqb-true _ _ (sym c.eq.ensures ∙ c.if-eq.true))
      ((c.or-more.ensures.means t).1 (inr ((c.before-in-grow.ensures t).1 q))))
      p.0 s h p.1,
)

pub grow-preserved : goal.grow-preserved
grow-preserved c = (
  λ s i. (c.or-more.ensures.means s).1 (inl (c.grow.invariant.0 s i)),
  λ s i. ⊎_elim (c.grow.invariant.1 s)
      (λ b. until_more c.args.self.now.rows.now c.args.self.now.n c.args.f c.args.g c.grow.found c.grow.invariant.1 s
      ((c.before-in-grow.ensures s).0 b))
      ((c.or-more.ensures.means s).0 i),
)
