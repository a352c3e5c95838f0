-- Rows of rising targets: the numbers with a property listed, and that a rising row is known by what is in it.
use Rattle.std.proofs.Common.{◌≡◌, ℕ, zero, suc, ◌+◌, ◌<◌, ◌≤◌, ◌↔◌, List, [], ◌∷◌, length, get_or, sym, refl, arith}
use native.Mathlib.Decide.{ℕ_discrete}
use Rattle.kripke.specs.Models.{nowhere}
use Rattle.kripke.specs.Reduced.{Rising}

-- x is in the row
abbrev pub In : List ℕ → ℕ → Type 0
In l x = (k : ℕ) × (k < length l) × (get_or l k nowhere ≡ x)

-- the row of the numbers from i to i + n - 1 with P
pub record Picks (i n : ℕ) (P : ℕ → Type 0) (l : List ℕ) : Type 0 where
  pub short : length l ≤ n
  pub low : (k : ℕ) → k < length l → i ≤ get_or l k nowhere
  pub high : (k : ℕ) → k < length l → get_or l k nowhere < i + n
  pub rising : Rising l
  pub right : (x : ℕ) → In l x → P x
  pub whole : (x : ℕ) → i ≤ x → x < i + n → P x → In l x

module _ (P : ℕ → Type 0) where
  picks-none : (i : ℕ) → Picks i 0 P []
  picks-none i = record {
    short = omega arith;
    low = λ k h. absurd (omega arith);
    high = λ k h. absurd (omega arith);
    rising = λ k h. absurd (omega arith);
    right = λ x h. absurd (omega (arith, h.1));
    whole = λ x a b. absurd (omega arith);
  }

  picks_more : (i n : ℕ) (l : List ℕ) → P i → Picks (suc i) n P l → Picks i (suc n) P (i ∷ l)
  picks_more i n l p S = record {
    short = omega (arith, S.short);
    low = elim [ zero ↦ λ h. omega arith | suc k ↦ λ h. let b = S.low k (omega arith) in omega arith ];
    high = elim [ zero ↦ λ h. omega arith | suc k ↦ λ h. let b = S.high k (omega arith) in omega arith ];
    rising = elim [ zero ↦ λ h. S.low 0 (omega arith) | suc k ↦ λ h. S.rising k (omega arith) ];
    right = λ x h. right x h.0 h.1 h.2;
    whole = whole;
  }
    where
      right : (x k : ℕ) → k < suc (length l) → get_or (i ∷ l) k nowhere ≡ x → P x
      right x zero h e = rw e at p
      right x (suc k) h e = S.right x (k, omega arith, e)

      whole : (x : ℕ) → i ≤ x → x < i + suc n → P x → In (i ∷ l) x
      whole x a b q = elim (ℕ_discrete i x) [
        | yes e ↦ (0, omega arith, e)
        | no o ↦ let s = S.whole x (omega arith) (omega arith) q in (suc s.0, omega (arith, s.1), s.2)
      ]

  picks-less : (i n : ℕ) (l : List ℕ) → (P i → ⊥) → Picks (suc i) n P l → Picks i (suc n) P l
  picks-less i n l o S = record {
    short = omega (arith, S.short);
    low = λ k h. let b = S.low k h in omega arith;
    high = λ k h. let b = S.high k h in omega arith;
    rising = S.rising;
    right = S.right;
    whole = λ x a b p. elim (ℕ_discrete i x) [
      | yes e ↦ absurd (o (rw e p))
      | no u ↦ S.whole x (omega arith) (omega arith) p
    ];
  }

  pub pick : ((x : ℕ) → Dec (P x)) → (n i : ℕ) → (l : List ℕ) × Picks i n P l
  pick d zero i = ([], picks-none i)
  pick d (suc n) i =
      let w = pick d n (suc i) in
      elim (d i) [
        | yes p ↦ (i ∷ w.0, picks_more i n w.0 p w.1)
        | no o ↦ (w.0, picks-less i n w.0 o w.1)
      ]

rising_rest : (x : ℕ) (l : List ℕ) → Rising (x ∷ l) → Rising l
rising_rest x l r k h = r (suc k) (omega arith)

-- the first of a rising row lies below each other
rising_first : (x : ℕ) (l : List ℕ) → Rising (x ∷ l) → (k : ℕ) → k < length l → x < get_or l k nowhere
rising_first x l r zero h = r 0 (omega arith)
rising_first x l r (suc k) h =
    let b = rising_first x l r k (omega arith) in
    let c = r (suc k) (omega arith) in
    omega arith

-- rising rows with the same targets are the same
pub rising_same : (l m : List ℕ) → Rising l → Rising m → ((x : ℕ) → In l x ↔ In m x) → l ≡ m
rising_same [] [] r s e = refl
rising_same [] (y ∷ m) r s e = let p = (e y).1 (0, omega arith, refl) in absurd (omega (arith, p.1))
rising_same (x ∷ l) [] r s e = let p = (e x).0 (0, omega arith, refl) in absurd (omega (arith, p.1))
rising_same (x ∷ l) (y ∷ m) r s e =
    let up = least y m s x ((e x).0 (0, omega arith, refl)) in
    let down = least x l r y ((e y).1 (0, omega arith, refl)) in
    let same : x ≡ y = omega arith in
    let rest = rising_same l m (rising_rest x l r) (rising_rest y m s)
    (λ z. (within x l y m r s same (λ w. (e w).0) z, within y m x l s r (sym same) (λ w. (e w).1) z)) in
    cc
  where
    least : (y : ℕ) (m : List ℕ) → Rising (y ∷ m) → (x : ℕ) → In (y ∷ m) x → y ≤ x
    least y m s x (zero, h, e) = omega arith
    least y m s x (suc k, h, e) = let b = rising_first y m s k (omega arith) in omega arith

    within : (x : ℕ) (l : List ℕ) (y : ℕ) (m : List ℕ) → Rising (x ∷ l) → Rising (y ∷ m) → x ≡ y →
        ((z : ℕ) → In (x ∷ l) z → In (y ∷ m) z) → (z : ℕ) → In l z → In m z
    within x l y m r s same f z p = after (f z (suc p.0, omega (arith, p.1), p.2)) (rising_first x l r p.0 p.1)
      where
        after : In (y ∷ m) z → x < get_or l p.0 nowhere → In m z
        after (zero, h, e) b = absurd (omega (arith, p.2))
        after (suc k, h, e) b = (k, omega arith, e)
