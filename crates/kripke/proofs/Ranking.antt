-- Numbers given by first member: how many there are, when one numbering is finer than another, and that there is only one.
use Rattle.std.proofs.Common.{◌≡◌, ℕ, zero, suc, ◌<◌, ◌≤◌, ◌⊎◌, ◌↔◌, sym, refl, ap, ◌∙◌, subst, inl, inr, ⊎_elim, arith}
use native.Mathlib.Decide.{ℕ_discrete}
use Rattle.std.proofs.lemmas.Bool.{cases_eq}
use Rattle.kripke.specs.Numbering.{First, Ranked}
use Rattle.kripke.proofs.Counting.{pigeons, chosen}
use Rattle.kripke.proofs.Finite.{least}

-- numbered in two steps: the members by parts, and the parts by classes
pub ranked_two : (n k m : ℕ) (f g : ℕ → ℕ) → Ranked n f k → Ranked k g m → Ranked n (λ s. g (f s)) m
ranked_two n k m f g R S =
    record {
      below = λ s h. S.below (f s) (R.below s h);
      member = λ i h. let p = S.member i h in let s = R.member p.0 p.1 in (s.0, s.1, ap g s.2 ∙ p.2);
      order = λ s i h l.
          let p = S.order (f s) i (R.below s h) l in
          let t = R.order s p.0 h p.1 in
          (t.0, t.1, ap g t.2 ∙ p.2);
    }

-- no more numbers than members
pub ranked_few : (n m : ℕ) (f : ℕ → ℕ) → Ranked n f m → m ≤ n
ranked_few n m f R =
    let p = chosen m (λ i s. (s < n) × (f s ≡ i)) (λ i h. let s = R.member i h in (s.0, (s.1, s.2))) in
    pigeons n m p.0 (λ i h. (p.1 i h).0) (λ i j h k e. sym (p.1 i h).1 ∙ ap f e ∙ (p.1 j k).1)

-- each number has a first member
pub first_member : (n m : ℕ) (f : ℕ → ℕ) → Ranked n f m → (i : ℕ) → i < m → (s : ℕ) × First n f i s
first_member n m f R i h =
    let s = R.member i h in
    let t = least (λ s. f s ≡ i) (λ s. ℕ_discrete (f s) i) n s.0 s.1 s.2 in
    (t.0, record { state = omega (arith, t.1, s.1); has = t.2.0; none_before = t.2.1 })

-- and no other
pub first_one : (n : ℕ) (f : ℕ → ℕ) (i s t : ℕ) → First n f i s → First n f i t → s ≡ t
first_one n f i s t S T =
    let a : s < t → ⊥ = λ l. T.none_before s l S.has in
    let b : t < s → ⊥ = λ l. S.none_before t l T.has in
    omega arith

module _ (n m k : ℕ) (f g : ℕ → ℕ) (R : Ranked n f m) (S : Ranked n g k) (fine : (s t : ℕ) → s < n → t < n → g s ≡ g t → f s ≡ f t) where
  -- x is a number by g of a member that has the number i by f
  abbrev Speaks : ℕ → ℕ → Type 0
  Speaks i x = (s : ℕ) × (s < n) × (f s ≡ i) × (x ≡ g s)

  speaker : (h : ℕ → ℕ) × ((i : ℕ) → i < m → Speaks i (h i))
  speaker = chosen m Speaks (λ i l. let s = R.member i l in (g s.0, (s.0, s.1, s.2, refl)))

  one : (i j x y : ℕ) → Speaks i x → Speaks j y → x ≡ y → i ≡ j
  one i j x y p q e = sym p.2 ∙ fine p.0 q.0 p.1 q.1 (sym p.3 ∙ e ∙ q.3) ∙ q.2

  -- a finer numbering has no fewer numbers
  pub finer_more : m ≤ k
  finer_more = pigeons k m speaker.0
      (λ i l. let s = speaker.1 i l in subst (λ x. x < k) (sym s.3) (S.below s.0 s.1))
      (λ i j a b e. one i j (speaker.0 i) (speaker.0 j) (speaker.1 i a) (speaker.1 j b) e)

  -- one number more: that of member x, for class m
  abbrev Wide : ℕ → ℕ → ℕ → Type 0
  Wide x i y = ((i < m) × (y ≡ speaker.0 i)) ⊎ ((i ≡ m) × (y ≡ g x))

  module _ (x : ℕ) (hx : x < n) (new : speaker.0 (f x) ≡ g x → ⊥) where
    told : (i y z : ℕ) → i < m → y ≡ speaker.0 i → z ≡ g x → y ≡ z → ⊥
    told i y z l p q e =
        let s = speaker.1 i l in
        let o : i ≡ f x = sym s.2 ∙ fine s.0 x s.1 hx (sym s.3 ∙ sym p ∙ e ∙ q) in
        new (sym (ap speaker.0 o) ∙ sym p ∙ e ∙ q)

    wide_below : (i y : ℕ) → Wide x i y → y < k
    wide_below i y (inl p) = let s = speaker.1 i p.0 in subst (λ z. z < k) (sym (p.1 ∙ s.3)) (S.below s.0 s.1)
    wide_below i y (inr p) = subst (λ z. z < k) (sym p.1) (S.below x hx)

    wide-one : (i j y z : ℕ) → Wide x i y → Wide x j z → y ≡ z → i ≡ j
    wide-one i j y z (inl p) (inl q) e =
        one i j (speaker.0 i) (speaker.0 j) (speaker.1 i p.0) (speaker.1 j q.0) (sym p.1 ∙ e ∙ q.1)
    wide-one i j y z (inl p) (inr q) e = absurd (told i y z p.0 p.1 q.1 e)
    wide-one i j y z (inr p) (inl q) e = absurd (told j z y q.0 q.1 p.1 (sym e))
    wide-one i j y z (inr p) (inr q) e = p.0 ∙ sym q.0

    wide : (i : ℕ) → i < suc m → (y : ℕ) × Wide x i y
    wide i l = ⊎_elim (λ same. (g x, inr (same, refl))) (λ other. (speaker.0 i, inl (omega arith, refl))) (cases_eq i m)

    one_more : m < k
    one_more =
        let h = chosen (suc m) (Wide x) wide in
        pigeons k (suc m) h.0 (λ i l. wide_below i (h.0 i) (h.1 i l))
        (λ i j a b e. wide-one i j (h.0 i) (h.0 j) (h.1 i a) (h.1 j b) e)

  -- and more, where it parts two members
  pub parts_more : (s t : ℕ) → s < n → t < n → f s ≡ f t → (g s ≡ g t → ⊥) → m < k
  parts_more s t hs ht e apart = ⊎_elim
      (λ is. one_more t ht (λ q. apart (is ∙ ap speaker.0 e ∙ q)))
      (λ not_is. one_more s hs (λ q. not_is (sym q)))
      (cases_eq (g s) (speaker.0 (f s)))

-- where two numberings are the same up to s, the one does not give s less than the other
first_less : (n m : ℕ) (f g : ℕ → ℕ) → Ranked n g m → ((s t : ℕ) → s < n → t < n → f s ≡ f t → g s ≡ g t) →
    (s : ℕ) → s < n → ((t : ℕ) → t < s → f t ≡ g t) → f s < g s → ⊥
first_less n m f g S part s h before l =
    let t = S.order s (f s) h l in
    let q = part t.0 s (omega (arith, t.1)) h (before t.0 t.1 ∙ t.2) in
    omega (arith, sym t.2 ∙ q)

-- two numberings that part the same members are the same
module _ (n m k : ℕ) (f g : ℕ → ℕ) (R : Ranked n f m) (S : Ranked n g k) (both : (s t : ℕ) → s < n → t < n → (f s ≡ f t) ↔ (g s ≡ g t)) where
  same_below : (b s : ℕ) → s < b → s < n → f s ≡ g s
  same_below zero s l h = absurd (omega arith)
  same_below (suc b) s l h =
      let before : (t : ℕ) → t < s → f t ≡ g t = λ t d. same_below b t (omega arith) (omega arith) in
      let low = first_less n k f g S (λ s t h l. (both s t h l).0) s h before in
      let high = first_less n m g f R (λ s t h l. (both s t h l).1) s h (λ t d. sym (before t d)) in
      omega arith

  pub ranked_same : (s : ℕ) → s < n → f s ≡ g s
  ranked_same s h = same_below (suc s) s (omega arith) h

  pub ranked_count : m ≡ k
  ranked_count =
      let up = finer_more n m k f g R S (λ s t h l. (both s t h l).1) in
      let down = finer_more n k m g f S R (λ s t h l. (both s t h l).0) in
      omega arith
