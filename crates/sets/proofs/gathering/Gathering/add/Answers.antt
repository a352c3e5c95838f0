use Rattle.std.proofs.Common.{◌≡◌, ℕ, ◌^◌, ◌<◌, length, get_or, sym, subst, inl, inr, ⊎_elim, arith, rules}
use Rattle.sets.specs.declared.Set.{Set}
use Rattle.sets.specs.Sets.{In}
use Rattle.sets.proofs.Halves.{added}
use Rattle.sets.proofs.gathering.Gathering.add.Goals as goal

pub returns-then-k-lt128 : goal.returns-then-k-lt128
returns-then-k-lt128 c = λ j.
    let halves = c.self.inside.halves in
    let k = c.args.k in
    let two : length halves ≡ 2 = search rules in
    let fits : (i : ℕ) → get_or halves i 0 < 2 ^ 64 = λ i. search rules in
    let a = added halves k two fits c.if-k-lt128.true j in (
      (λ h. ⊎_elim (λ o. inl (subst (λ (x : Set). In x j) c.self.view_is o)) inr (a.0 h)),
      (λ h. a.1 (⊎_elim (λ o. inl (subst (λ (x : Set). In x j) (sym c.self.view_is) o)) inr h)),
    )
