use Rattle.std.proofs.Common.{rules, ⊎_elim, arith}
use Rattle.sets.proofs.Bits.{in_dec}
use Rattle.checker.proofs.spread.Table.before.Goals as goal

pub returns : goal.returns
returns c s =
    let both = c.and.ensures s in (
      λ h. let i = both.0 h in let p = c.passing.ensures.passed s i.1 in search (rules, i, p),
      λ f. both.1 (f.0, ⊎_elim (λ i. i) (λ o. absurd (let q = c.passing.ensures.failed s f.1.1 (omega arith) o in search (rules, q, f))) (in_dec c.passing.result.bits s)),
    )
