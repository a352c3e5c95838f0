-- How many of the numbers below n are in a set.
use Rattle.std.proofs.Common.{◌≡◌, ℕ, zero, suc, ◌+◌, ◌<◌, ◌≤◌, ◌↔◌, refl, sym, subst, ⊎_elim, not-suc-le-zero, arith}
use Rattle.std.proofs.lemmas.Bool.{cases_eq}
use Rattle.sets.specs.declared.Set.{Set}
use Rattle.sets.specs.Sets.{bit, In}
use Rattle.sets.proofs.Bits.{in_dec}
use Rattle.components.specs.Search.{amount}

bit_few : (x k : ℕ) → bit x k ≤ 1
bit_few x k = omega arith

pub amount_few : (n : ℕ) (x : Set) → amount n x ≤ n
amount_few zero x = omega arith
amount_few (suc n) x = omega (arith, amount_few n x, bit_few x.bits n)

bit_out : (x : Set) (k : ℕ) → (In x k → ⊥) → bit x.bits k ≡ 0
bit_out x k o = ⊎_elim (λ h. absurd (o h)) (λ n. omega (arith, bit_few x.bits k)) (in_dec x.bits k)

amount_same : (n : ℕ) (x y : Set) → ((s : ℕ) → s < n → In x s ↔ In y s) → amount n x ≡ amount n y
amount_same zero x y same = refl
amount_same (suc n) x y same =
    let rest = amount_same n x y (λ s l. same s (omega arith)) in
    ⊎_elim
    (λ h. let b : bit y.bits n ≡ 1 = (same n (omega arith)).0 h in omega arith)
    (λ o. let a = bit_out x n o in let b = bit_out y n (λ h. o ((same n (omega arith)).1 h)) in omega arith)
    (in_dec x.bits n)

-- one number is taken out
pub amount_less : (n : ℕ) (x y : Set) (t : ℕ) → t < n → In x t → ((s : ℕ) → In y s ↔ (In x s × (s ≡ t → ⊥))) → amount n x ≡ amount n y + 1
amount_less zero x y t l h other = absurd (not-suc-le-zero l)
amount_less (suc n) x y t l h other = ⊎_elim
    (λ e.
    let a : bit x.bits n ≡ 1 = subst (λ (k : ℕ). In x k) e h in
    let b = bit_out y n (λ q. ((other n).0 q).1 (sym e)) in
    let rest = amount_same n x y (λ s k. ((λ p. (other s).1 (p, λ q. omega arith)), (λ p. ((other s).0 p).0))) in
    omega arith)
    (λ ne.
    let rest = amount_less n x y t (omega arith) h other in
    ⊎_elim
    (λ p. let b : bit y.bits n ≡ 1 = (other n).1 (p, λ q. ne (sym q)) in omega arith)
    (λ o. let a = bit_out x n o in let b = bit_out y n (λ q. o ((other n).0 q).0) in omega arith)
    (in_dec x.bits n))
    (cases_eq t n)

-- a number that is in the set counts
pub amount_some : (n : ℕ) (x : Set) (t : ℕ) → t < n → In x t → 0 < amount n x
amount_some zero x t l h = absurd (not-suc-le-zero l)
amount_some (suc n) x t l h = ⊎_elim
    (λ e. let a : bit x.bits n ≡ 1 = subst (λ (k : ℕ). In x k) e h in omega arith)
    (λ ne. let a = amount_some n x t (omega arith) h in omega arith)
    (cases_eq t n)
