-- Tables in which every place is the same, and what a write leaves.
use Rattle.std.proofs.Common.{◌≡◌, ℕ, zero, suc, ◌+◌, ◌/◌, ◌%◌, ◌^◌, ◌<◌, false, ltb, List, length, get_or, set, replicate, sym, refl, subst, ⊎_elim, arith}
use Rattle.std.proofs.lemmas.Bool.{and_right, ne_eqb, cases_eq}
use Rattle.std.proofs.lemmas.List.{get_or-set_same, get_or-set_other}
use Rattle.kripke.specs.Words.{bit}
use Rattle.sets.proofs.Bits.{none_in}
use Rattle.merger.specs.Tables.{words_of}

pub blank : {X : Type 0} (n c : ℕ) (x : X) → get_or (replicate n x) c x ≡ x
blank zero c x = refl
blank (suc n) zero x = refl
blank (suc n) (suc c) x = blank n c x

-- no word is in the number 0
pub no_words : (a : ℕ) → words_of 0 a ≡ false
no_words a = and_right (ltb a 64) (bit 0 a) (ne_eqb (0 / 2 ^ a % 2) 1 (none_in a))

-- what holds at place k of x, and at the others of what was there, holds everywhere after the write
pub after_set : {X : Type 0} (d : X) (table : List X) (k : ℕ) (x : X) → k < length table → (P : ℕ → X → Type 0) →
    P k x → ((c : ℕ) → (c ≡ k → ⊥) → P c (get_or table c d)) → (c : ℕ) → P c (get_or (set table k x) c d)
after_set d table k x room P here others c = ⊎_elim
    (λ e. subst (λ i. P i (get_or (set table k x) i d)) (sym e) (subst (P k) (sym (get_or-set_same table k x d room)) here))
    (λ n. subst (P c) (sym (get_or-set_other table k c x d n)) (others c n))
    (cases_eq c k)

-- a filled table, one place further
pub filled_more : {X : Type 0} (d : X) (P : ℕ → X → Type 0) (table : List X) (n : ℕ) (x : X) → n < length table →
    ((k : ℕ) → k < n → P k (get_or table k d)) → P n x → (k : ℕ) → k < n + 1 → P k (get_or (set table n x) k d)
filled_more d P table n x room was here k h =
    after_set d table n x room (λ k v. k < n + 1 → P k v) (λ _. here) (λ k other l. was k (omega arith)) k h
