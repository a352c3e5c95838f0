use Rattle.std.proofs.Common.{ℕ, ◌^◌, ◌<◌, sym, subst, ◌∙◌, rules}
use Rattle.std.proofs.lemmas.Bool.{eqb-true, eq-eqb}
use Rattle.sets.proofs.Bits.{On, same_bits}
use Rattle.sets.proofs.Set.same.Goals as goal

pub returns : goal.returns
returns c =
    let x = c.args.self.bits in
    let y = c.args.other.bits in
    let fits : x < 2 ^ 128 = search rules in
    let fits_other : y < 2 ^ 128 = search rules in (
      (λ t j. let e = eqb-true x y (sym c.eq.ensures ∙ t) in ((λ h. subst (λ (b : ℕ). On b j) e h), (λ h. subst (λ (b : ℕ). On b j) (sym e) h))),
      (λ same. c.eq.ensures ∙ eq-eqb x y (same_bits 128 x y fits fits_other (λ j l. same j))),
    )
