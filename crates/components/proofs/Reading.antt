-- The moves of a state to alike ones, read one after the other.
use Rattle.std.proofs.Common.{◌≡◌, ℕ, ◌+◌, ◌<◌, ◌≤◌, false, ltb, ◌⊎◌, ◌↔◌, List, length, get_or, take, sym, ap, ◌∙◌, subst, inl, inr, ⊎_elim, arith}
use Rattle.std.proofs.lemmas.Bool.{cases_eq, cases_lt, cond-true, lt-ltb}
use Rattle.std.proofs.lemmas.List.{get_or_past, get_or-take}
use Rattle.sets.specs.declared.Set.{Set}
use Rattle.sets.specs.Sets.{In}
use Rattle.kripke.specs.Words.{SameWords}
use Rattle.kripke.specs.Models.{Kripke, Alike, nowhere}
use Rattle.models.specs.declared.facts.Facts.{Facts}
use Rattle.models.specs.Facts.{fact_words}
use Rattle.components.specs.Alike.{silent, Told, AlikeMoves}

-- x is the set of the targets of the first k moves of s that are alike to it
abbrev pub Begun : Kripke → ℕ → ℕ → Set → Type 0
Begun M s k x = (t : ℕ) → In x t ↔ (Alike M s t × ((j : ℕ) × (j < k) × (get_or (M.frame.row s) j nowhere ≡ t)))

-- the next move goes to an alike state
pub begun_alike : (M : Kripke) (s k t : ℕ) (x y : Set) → M.frame.size ≤ 128 → get_or (M.frame.row s) k nowhere ≡ t → Alike M s t →
    ((j : ℕ) → In y j ↔ (In x j ⊎ ((j ≡ t) × (t < 128)))) → Begun M s k x → Begun M s (k + 1) y
begun_alike M s k t x y few e near added before u = (
  λ h. ⊎_elim
      (λ o. let p = (before u).0 o in (p.0, (p.1.0, omega (arith, p.1.1), p.1.2)))
      (λ q. (subst (Alike M s) (sym q.0) near, (k, omega arith, e ∙ sym q.0)))
      ((added u).0 h),
  λ p. (added u).1 (⊎_elim
      (λ q. inr (sym p.1.2 ∙ subst (λ (i : ℕ). get_or (M.frame.row s) i nowhere ≡ t) (sym q) e, omega (arith, near.1)))
      (λ n. inl ((before u).1 (p.0, (p.1.0, omega (arith, p.1.1), p.1.2))))
      (cases_eq p.1.0 k)),
)

-- the next move goes to another one, or nowhere
pub begun_other : (M : Kripke) (s k t : ℕ) (x : Set) → get_or (M.frame.row s) k nowhere ≡ t → (Alike M s t → ⊥) → Begun M s k x → Begun M s (k + 1) x
begun_other M s k t x e far before u = (
  λ h. let p = (before u).0 h in (p.0, (p.1.0, omega (arith, p.1.1), p.1.2)),
  λ p. ⊎_elim
      (λ q. absurd (far (subst (Alike M s) (sym p.1.2 ∙ subst (λ (i : ℕ). get_or (M.frame.row s) i nowhere ≡ t) (sym q) e) p.0)))
      (λ n. (before u).1 (p.0, (p.1.0, omega (arith, p.1.1), p.1.2)))
      (cases_eq p.1.0 k),
)

-- all moves are read
pub begun_all : (M : Kripke) (s k : ℕ) (x : Set) → M.frame.size ≤ 128 → length (M.frame.row s) ≤ k → Begun M s k x → AlikeMoves M s x
begun_all M s k x few past before t = (
  λ h.
      let p = (before t).0 h in
      let j : ℕ = p.1.0 in
      let inside : j < length (M.frame.row s) = ⊎_elim (λ l. l) (λ o. absurd (omega (arith, get_or_past (M.frame.row s) j nowhere o, p.1.2, p.0.1, few))) (cases_lt j (length (M.frame.row s))) in
      (p.0, (j, p.0.0, p.0.1, inside, p.1.2)),
  λ p. (before t).1 (p.0, (p.1.0, omega (arith, p.1.3), p.1.4)),
)

-- the words of a state, as the table of the first n states tells them
front : (M : Kripke) (words : List Facts) (n : ℕ) → n ≡ M.frame.size → Told M words → (s : ℕ) → s < M.frame.size →
    SameWords (fact_words (get_or (take n words) s silent)) (M.labels.words s)
front M words n e told s l a =
    ap (λ (f : Facts). fact_words f a) (get_or-take n words s silent (omega arith)) ∙ told s l a ∙ cond-true (ltb s M.frame.size) (M.labels.words s a) false (lt-ltb s M.frame.size l)

-- a number is a state with the words of s exactly where it is alike to s
pub near : (M : Kripke) (words : List Facts) (n : ℕ) → n ≡ M.frame.size → length (take n words) ≡ n → Told M words → (s t : ℕ) → s < M.frame.size →
    ((t < length (take n words)) × SameWords (fact_words (get_or (take n words) t silent)) (fact_words (get_or (take n words) s silent))) ↔ Alike M s t
near M words n e long told s t l = (
  λ p.
      let b : t < M.frame.size = omega (arith, p.0, long) in
      (l, b, λ a. sym (front M words n e told s l a) ∙ sym (p.1 a) ∙ front M words n e told t b a),
  λ h. (omega (arith, h.1, long), λ a. front M words n e told t h.1 a ∙ sym (h.2 a) ∙ sym (front M words n e told s l a)),
)
