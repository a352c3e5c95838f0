use Rattle.std.proofs.Common.{sym, refl, subst, inl}
use Rattle.sets.specs.declared.Set.{Set}
use Rattle.sets.specs.Sets.{In}
use Rattle.merger.proofs.tables.write.Goals as goal

pub loop-k-init : goal.loop-k-init
loop-k-init g c =
    let e = c.into_iter-k-iterator.ensures.into_iter_gives in (
      tt,
      tt,
      (λ k h. subst (λ (x : Set). In x k) e h),
      (λ k d h. inl (subst (λ (x : Set). In x k) (sym e) h)),
      (λ k d _. refl),
    )
