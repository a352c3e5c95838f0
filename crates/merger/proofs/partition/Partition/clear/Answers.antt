use Rattle.std.proofs.Common.{subst, arith}
use Rattle.sets.specs.declared.Set.{Set}
use Rattle.sets.specs.Sets.{In, none}
use Rattle.sets.proofs.Bits.{none_in}
use Rattle.merger.proofs.Blank.{blank}
use Rattle.merger.proofs.partition.Partition.clear.Goals as goal

pub invariant_of-self : goal.invariant_of-self
invariant_of-self c = record {
  few = omega arith;
  most = omega arith;
  groups = record {
    low = λ k h. absurd (omega arith);
    each = λ c k. ((λ h. absurd (none_in k (subst (λ (x : Set). In x k) (blank 128 c none) h))), (λ p. absurd (omega (arith, p.0))));
  };
  low = λ k h. absurd (omega arith);
  some = λ c h e. omega arith;
}
