-- What can be decided of the numbers below n, and the least number with a property.
use Rattle.std.proofs.Common.{ℕ, zero, suc, ◌<◌, ◌≤◌, ◌⊎◌, subst, inl, inr, arith}
use native.Mathlib.Decide.{ℕ_discrete}

pub some_below : (n : ℕ) (P : ℕ → Type 0) → ((i : ℕ) → Dec (P i)) → Dec ((i : ℕ) × (i < n) × P i)
some_below zero P d = no (λ p. omega (arith, p.1))
some_below (suc n) P d =
    elim (some_below n P d) [
      | yes p ↦ yes (p.0, omega (arith, p.1), p.2)
      | no o ↦ elim (d n) [
        | yes q ↦ yes (n, omega arith, q)
        | no l ↦ no (λ p. elim (ℕ_discrete p.0 n) [
          | yes e ↦ l (subst P e p.2)
          | no u ↦ o (p.0, omega (arith, p.1), p.2)
        ])
      ]
    ]

pub dec_or : {A B : Type 0} → Dec A → Dec B → Dec (A ⊎ B)
dec_or (yes a) b = yes (inl a)
dec_or (no o) (yes b) = yes (inr b)
dec_or (no o) (no l) = no (λ p. elim p [ inl a ↦ o a | inr b ↦ l b ])

-- w is the least number with P
abbrev pub Least : (ℕ → Type 0) → ℕ → Type 0
Least P w = P w × ((j : ℕ) → j < w → P j → ⊥)

pub least : (P : ℕ → Type 0) → ((i : ℕ) → Dec (P i)) → (n i : ℕ) → i < n → P i → (w : ℕ) × (w ≤ i) × Least P w
least P d zero i h p = absurd (omega arith)
least P d (suc n) i h p =
    elim (some_below i P d) [
      | yes q ↦ let w = least P d n q.0 (omega (arith, q.1)) q.2 in (w.0, omega (arith, w.1, q.1), w.2)
      | no o ↦ (i, omega arith, (p, λ j l q. o (j, l, q)))
    ]
