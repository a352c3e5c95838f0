-- The numbers that are computed are those by first member.
use Rattle.std.proofs.Common.{◌≡◌, ℕ, zero, suc, ◌+◌, ◌<◌, ◌≤◌, Bool, true, false, ltb, List, [], ◌∷◌, ◌++◌, length, get_or, refl, ◌∙◌, subst, arith}
use Rattle.std.proofs.lemmas.List.{length-append, get_or_append_left}
use Rattle.kripke.specs.Equivalence.{Equivalence}
use Rattle.kripke.specs.Numbering.{Numbering}
use Rattle.kripke.proofs.Numbering.{number-none, number_old, number_new}
use Rattle.worked.specs.Tables.{seek, look}
use Rattle.worked.specs.Decisions.{Table, Ranks, joins, ranks, at}
use Rattle.worked.proofs.Tests.{Tells, holds, fails, tells_lt, Draws}

-- what the first number with a yes tells, and its absence
pub tells_seek : (n : ℕ) (P : ℕ → Type 0) (f : ℕ → Bool) → ((i : ℕ) → i < n → Tells (P i) (f i)) →
    (seek n f < n → P (seek n f)) × ((j : ℕ) → j < n → j < seek n f → P j → ⊥)
unfolding seek
tells_seek zero P f t = ((λ h. absurd (omega arith)), (λ j h. absurd (omega arith)))
tells_seek (suc n) P f t = go (f 0) (t 0 (omega arith)) (tells_seek n (λ i. P (suc i)) (λ i. f (suc i)) (λ i h. t (suc i) (omega arith)))
  where
    k : ℕ
    k = seek n (λ i. f (suc i))

    go : (b : Bool) → Tells (P 0) b → (k < n → P (suc k)) × ((j : ℕ) → j < n → j < k → P (suc j) → ⊥) →
        (elim b as (λ _. ℕ) [ true ↦ 0 | false ↦ suc k ] < suc n → P (elim b as (λ _. ℕ) [ true ↦ 0 | false ↦ suc k ])) ×
        ((j : ℕ) → j < suc n → j < elim b as (λ _. ℕ) [ true ↦ 0 | false ↦ suc k ] → P j → ⊥)
    go true (holds z) rec = ((λ _. z), (λ j h l q. omega arith))
    go false (fails o) rec = ((λ h. rec.0 (omega arith)), elim [ zero ↦ λ h l q. o q | suc j ↦ λ h l q. rec.1 j (omega arith) (omega arith) q ])

at_last : (l : List ℕ) (x : ℕ) → get_or (l ++ (x ∷ [])) (length l) 0 ≡ x
at_last [] x = refl
at_last (y ∷ l) x = at_last l x

module _ (n : ℕ) (C : ℕ → ℕ → Type 0) (E : Equivalence n C) (m : Table) (d : Draws n m C) where
  abbrev Right : ℕ → Ranks → Type 0
  Right k w = (length w.numbers ≡ k) × Numbering C k (at w) w.count

  right-next : (k : ℕ) → k < n → (w : Ranks) → Right k w → (j : ℕ) → (j < k → C j k) → ((i : ℕ) → i < k → i < j → C i k → ⊥) →
      (b : Bool) → Tells (j < k) b → Right (suc k) (joins b j w)
  right-next k h w p j found none true (holds l) =
      let x : ℕ = get_or w.numbers j 0 in (
        (length-append w.numbers (x ∷ []) ∙ omega (arith, p.0)),
        subst (λ i. Numbering C i (at (joins true j w)) w.count) (omega arith)
            (number_old C E.turn E.join k w.count (E.own k h) (at w) (at (joins true j w)) p.1
            (λ i b. get_or_append_left w.numbers (x ∷ []) 0 i (omega (arith, p.0))) j l (found l)
            (subst (λ i. get_or (w.numbers ++ (x ∷ [])) i 0 ≡ x) p.0 (at_last w.numbers x))),
      )
  right-next k h w p j found none false (fails o) =
      let x : ℕ = w.count in (
        (length-append w.numbers (x ∷ []) ∙ omega (arith, p.0)),
        subst (λ i. Numbering C i (at (joins false j w)) (w.count + 1)) (omega arith)
            (number_new C E.turn E.join k w.count (E.own k h) (at w) (at (joins false j w)) p.1
            (λ i b. get_or_append_left w.numbers (x ∷ []) 0 i (omega (arith, p.0))) (λ i b q. none i b (omega arith) q)
            (subst (λ i. get_or (w.numbers ++ (x ∷ [])) i 0 ≡ x) p.0 (at_last w.numbers x))),
      )

  right : (k : ℕ) → k ≤ n → Right k (ranks m k)
  unfolding ranks
  right zero h = (refl, number-none C (at (ranks m 0)))
  right (suc k) h =
      let j : ℕ = seek k (λ j. look m j k) in
      let s = tells_seek k (λ j. C j k) (λ j. look m j k) (λ i b. d i k (omega arith) (omega arith)) in
      right-next k h (ranks m k) (right k (omega arith)) j s.0 s.1 (ltb j k) (tells_lt j k)

  pub ranked_right : Numbering C n (at (ranks m n)) (ranks m n).count
  ranked_right = (right n (omega arith)).1
