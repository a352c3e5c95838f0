use Rattle.std.proofs.Common.{ℕ, ◌^◌, ◌<◌, not, eqb, Decides, subst, arith, rules}
use lib.Bits.{bit_and}
use Rattle.std.proofs.lemmas.Bool.{eqb-false, ne_eqb, not-true, not_from_false}
use Rattle.std.proofs.lemmas.Nat.{and_le_l}
use Rattle.sets.proofs.Bits.{On, in_and, some_in, none_in}
use Rattle.sets.proofs.Set.meets.Goals as goal

told : (a b : ℕ) → a < 2 ^ 128 → Decides (not (eqb (bit_and a b) 0)) ((j : ℕ) × On a j × On b j)
told a b h = (
  λ t.
      let n = eqb-false (bit_and a b) 0 (not-true (eqb (bit_and a b) 0) t) in
      let r = some_in 128 (bit_and a b) (omega (arith, and_le_l a b)) (omega arith) in
      let q = (in_and a b r.0).0 r.2 in
      (r.0, q.0, q.1),
  λ p. not_from_false (eqb (bit_and a b) 0)
      (ne_eqb (bit_and a b) 0 (λ z. none_in p.0 (subst (λ (y : ℕ). On y p.0) z ((in_and a b p.0).1 (p.1, p.2))))),
)

pub returns : goal.returns
returns c = told c.args.self.bits c.args.other.bits (search rules)
