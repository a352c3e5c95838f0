use Rattle.std.proofs.Common.{◌≡◌, ℕ, ◌^◌, ◌<◌, ◌≤◌, ◌⊎◌, ◌↔◌, sym, subst, inl, inr, ⊎_elim, arith, rules}
use lib.Bits.{bit_or}
use Rattle.std.proofs.lemmas.Nat.{one_shl}
use Rattle.sets.proofs.Bits.{On, in_or, in_one}
use Rattle.sets.proofs.Set.with.Goals as goal

joined : (x k j : ℕ) → k < 128 → On (bit_or x (2 ^ k)) j ↔ (On x j ⊎ ((j ≡ k) × (k < 128)))
joined x k j low = (
  λ h. ⊎_elim inl (λ o. inr ((in_one k j).0 o, low)) ((in_or x (2 ^ k) j).0 h),
  λ h. (in_or x (2 ^ k) j).1 (⊎_elim inl (λ e. inr ((in_one k j).1 e.0)) h),
)

pub returns : goal.returns
returns c j =
    let low : c.args.k < 128 = search rules in
    subst (λ (y : ℕ). On (bit_or c.args.self.bits y) j ↔ (On c.args.self.bits j ⊎ ((j ≡ c.args.k) × (c.args.k < 128))))
    (sym (one_shl c.args.k 128 low))
    (joined c.args.self.bits c.args.k j low)

pub returns-then-k-ge128 : goal.returns-then-k-ge128
returns-then-k-ge128 c j =
    let past : 128 ≤ c.args.k = search rules in
    (inl, λ h. ⊎_elim (λ o. o) (λ e. absurd (omega (arith, e.1))) h)
