use Rattle.std.proofs.Common.{◌≡◌, ◌<◌, ◌≤◌, length, ap, refl, inl, inr, ⊎_elim, arith, rules}
use Rattle.components.specs.declared.search.Search.{Search}
use Rattle.components.proofs.Taking.{take_none, take_more, take_next, shuts}
use Rattle.components.proofs.search.Search.close.Goals as goal

pub loop-s-init : goal.loop-s-init
loop-s-init c = take_none _ _

pub bounds-self-s : goal.bounds-self-s
bounds-self-s c =
    let k = c.requires.stacked in
    c.requires.low c.in-Some.s ((k.4 c.in-Some.s).1 (take_next _ _ _ _ _ c.in-Some.ensures.1 c.in-Some.ensures.0 c.loop-s.invariant k.0 k.1 k.2 k.3))

pub loop-s-preserved : goal.loop-s-preserved
loop-s-preserved c = take_more _ _ _ _ _ c.in-Some.ensures.1 c.in-Some.ensures.0 c.loop-s.invariant (omega (arith, bounds-self-s c, c.loop-s.invariant.wide, c.requires.wide))

pub returns : goal.returns
returns c =
    let none : (length c.loop-s.self.numbers.held ≤ c.args.top.at) × (c.pop_above.new.self ≡ c.loop-s.self.numbers) = search (rules, c.pop_above.ensures, c.in_default.is) in
    let few : c.loop-s.self.count < 128 = omega (arith, ap (λ (T : Search). T.count) c.loop-s.invariant.rest, c.requires.many) in
    shuts _ _ _ _ c.loop-s.invariant none.0 c.requires.stacked c.minus-self.ensures.means
    (λ d. (
      (λ h. ⊎_elim inl (λ p. inr (p.0, c.meets.ensures.0 p.2)) ((c.with_if-self.ensures d).0 h)),
      (λ h. (c.with_if-self.ensures d).1 (⊎_elim inl (λ p. inr (p.0, few, c.meets.ensures.1 p.1)) h)),
    ))
    (rw none.1 refl)
