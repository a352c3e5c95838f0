use Rattle.std.proofs.Common.{ℕ, subst}
use Rattle.sets.proofs.Bits.{On, none_in}
use Rattle.kripke.proofs.Ranking.{ranked_few}
use Rattle.merger.specs.declared.partition.Partition.{Partition}
use Rattle.merger.proofs.partition.Partition.refine.Goals as goal

pub invariant_of-self : goal.invariant_of-self
invariant_of-self c =
    let P : Partition = c.args.self.now in
    let R = c.part-self.ensures.numbers.ranked in
    let G = c.part-self.ensures.groups in
    record {
      few = P.few;
      most = ranked_few _ _ _ R;
      groups = G;
      low = R.below;
      some = λ d h e. let s = R.member d h in none_in s.0 (subst (λ (b : ℕ). On b s.0) e ((G.each d s.0).1 (s.1, s.2)));
    }
