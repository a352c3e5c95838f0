use Rattle.std.proofs.Common.{◌≡◌, length, set, sym, subst, ⊎_elim, arith, rules}
use Rattle.std.proofs.lemmas.Bool.{cases_eq, iff_false}
use Rattle.std.proofs.lemmas.List.{get_or-set_same}
use Rattle.merger.specs.Grids.{at}
use Rattle.merger.proofs.Placing.{same_stable}
use Rattle.merger.proofs.partition.open.Goals as goal

pub returns-then-several-clause-group : goal.returns-then-several-clause-group
returns-then-several-clause-group c j =
    let m = c.minus.ensures.means j in
    let o = c.place-others.ensures.others j in (
      (λ h. let p = m.0 h in (p.0, same_stable _ _ (λ n. p.1 (o.1 (p.0, n))))),
      (λ p. m.1 (p.0, λ h. (o.0 h).1 p.1)),
    )

pub returns-else-several-clause-placed : goal.returns-else-several-clause-placed
returns-else-several-clause-placed c j h s =
    let class = c.args.class.now in
    let long : length class ≡ 128 = search rules in
    let one = iff_false c.several.ensures c.if-several.false in
    ⊎_elim
    (λ e. subst (λ i. at (set class c.args.k c.args.c) i ≡ c.args.c) (sym e) (get_or-set_same class c.args.k c.args.c 0 (omega (arith, long, c.requires.low.0))))
    (λ other. absurd (one (j, c.args.k, h, c.requires.own, other)))
    (cases_eq j c.args.k)
