use Rattle.std.proofs.Common.{ℕ, ◌-◌, ◌^◌, ◌<◌, ◌↔◌, sym, subst, ⊎_elim, arith, rules}
use Rattle.std.proofs.lemmas.Nat.{one_shl, pow_pos}
use Rattle.std.proofs.lemmas.Bool.{cases_lt}
use Rattle.sets.proofs.Bits.{On, below-bits, high_out}
use Rattle.sets.proofs.Set.below.Goals as goal

pub returns-then-n-ge128 : goal.returns-then-n-ge128
returns-then-n-ge128 c j =
    let fits : c.all.result.bits < 2 ^ 128 = search rules in
    let past = c.if-n-ge128.true in (
      λ h. ⊎_elim (λ l. (omega arith, l)) (λ o. absurd (high_out 128 c.all.result.bits j fits o h)) (cases_lt j 128),
      λ p. c.all.ensures j p.1,
    )

pub overflow_sub-result : goal.overflow_sub-result
overflow_sub-result c = omega (arith, one_shl c.args.n 128 c.if-n-ge128.false, pow_pos c.args.n)

pub returns : goal.returns
returns c j =
    let n = c.args.n in
    let low = c.if-n-ge128.false in
    let b = below-bits n j in
    subst (λ (y : ℕ). On (y - 1) j ↔ ((j < n) × (j < 128))) (sym (one_shl n 128 low))
    (λ h. let l = b.0 h in (l, omega arith), λ p. b.1 p.0)
