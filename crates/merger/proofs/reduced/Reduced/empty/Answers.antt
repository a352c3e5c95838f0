use Rattle.std.proofs.Common.{ap, ◌∙◌, subst, arith}
use Rattle.sets.specs.declared.Set.{Set}
use Rattle.sets.specs.Sets.{In, none}
use Rattle.sets.proofs.Bits.{none_in}
use Rattle.merger.specs.Tables.{words_of}
use Rattle.merger.proofs.Blank.{blank, no_words}
use Rattle.merger.proofs.reduced.Reduced.empty.Goals as goal

pub invariant_of-result : goal.invariant_of-result
invariant_of-result c = record {
  few = omega arith;
  spoken = omega arith;
  within = λ s a past. ap (λ x. words_of x a) (blank 128 s 0) ∙ no_words a;
  lands = λ s j h. absurd (none_in j (subst (λ (x : Set). In x j) (blank 128 s none) h));
}
