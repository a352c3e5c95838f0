use Rattle.std.proofs.Common.{◌≡◌, ℕ, ◌^◌, ◌<◌, eqb, sym, ◌∙◌, subst, ⊎_elim, arith, rules}
use Rattle.std.proofs.lemmas.Bool.{cases_eq, eqb-false, ne_eqb, not-true, not_from_false}
use Rattle.sets.proofs.Bits.{On, some_in, none_in}
use Rattle.sets.proofs.Set.several.Goals as goal

pub returns-in-Some : goal.returns-in-Some
returns-in-Some c =
    let k = c.in-Some.field-0-0 in
    let y = c.in-Some.rest.bits in
    let S = c.in-Some.ensures in
    let fits : c.args.self.bits < 2 ^ 128 = search rules in
    let low = S.falls in (
      λ t.
          let n = eqb-false y 0 (not-true (eqb y 0) t) in
          let j = some_in 128 y (omega arith) (omega arith) in
          let o = (S.others j.0).0 j.2 in
          (j.0, k, o.0, S.has, o.1),
      λ p.
          let other : (i : ℕ) → On c.args.self.bits i → (i ≡ k → ⊥) → y ≡ 0 → ⊥ =
          λ i h n z. none_in i (subst (λ (b : ℕ). On b i) z ((S.others i).1 (h, n))) in
          not_from_false (eqb y 0) (ne_eqb y 0 (⊎_elim
          (λ e. other p.1 p.3 (λ e'. p.4 (e ∙ sym e')))
          (λ n. other p.0 p.2 n)
          (cases_eq p.0 k))),
    )
