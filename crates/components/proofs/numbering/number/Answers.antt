use Rattle.std.proofs.Common.{◌≡◌, ℕ, ◌+◌, ◌<◌, length, get_or, set, take, Some, None, sym, ap, ◌∙◌, subst, inl, inr, ⊎_elim, arith, rules}
use Rattle.std.proofs.lemmas.List.{length-take, get_or-take}
use Rattle.sets.specs.Sets.{In}
use Rattle.sets.specs.declared.Set.{Set}
use Rattle.components.specs.Numbers.{number}
use Rattle.components.specs.declared.Found.{Found}
use Rattle.components.proofs.Numbers.{giving_none, giving_old, giving_new, giving_same}
use Rattle.components.proofs.numbering.number.Goals as goal
use Rattle.components.proofs.numbering.number.Goals.{in-Some, in-None}

-- a component more, whose other number is c
abbrev put : Found → Set → ℕ → Found
put found cyclic c = record { count = found.count + 1; cyclic = cyclic; order = set found.order c found.count }

pub loop-s-init : goal.loop-s-init
loop-s-init c = (giving_none _ _ _, search rules)

pub loop-s-preserved : goal.loop-s-preserved
loop-s-preserved c =
    let before = c.loop-s.invariant.0 in
    let inside : c.loop-s.s < length c.loop-s.part = omega (arith, c.loop-s.invariant.1, length-take c.args.size c.args.component.now) in
    let l : c.loop-s.s < c.args.size = omega (arith, length-take c.args.size c.args.component.now) in
    let e : get_or (take c.args.size c.args.component.now) c.loop-s.s 0 ≡ number c.args.component.now c.loop-s.s = get_or-take _ _ _ _ l in (
      elim c.match-given-c.branch [
        | in-Some w ↦
            giving_same _ _ _ _ w.part-is w.given-is w.found-is
            (giving_old _ _ _ _ _ _ _ before inside w.in-Some.i (ap (λ x. get_or c.loop-s.given x None) (sym e) ∙ w.in-Some.is))
        | in-None w ↦
            giving_same _ _ _ _ w.part-is (w.given-is ∙ ap (λ x. set c.loop-s.given x (Some c.loop-s.found.count)) e) (w.found-is ∙ ap (put c.loop-s.found w.with_if-found.result) e)
            (giving_new _ _ _ _ _ _ _ before inside (c.requires.low c.loop-s.s l) (ap (λ x. get_or c.loop-s.given x None) (sym e) ∙ w.in-None.is) _ (λ j. (
              (λ h. ⊎_elim inl (λ q. inr (q.0, subst (In c.args.cyclic) e (w.has.ensures.0 q.2))) ((w.with_if-found.ensures j).0 h)),
              (λ h. (w.with_if-found.ensures j).1 (⊎_elim inl (λ q. inr (q.0, omega (arith, before.few), w.has.ensures.1 (subst (In c.args.cyclic) (sym e) q.1))) h)),
            )))
      ],
      c.match-given-c.array_long,
    )
