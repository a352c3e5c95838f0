-- The test whether a model is the reduced model of another.
use Rattle.std.proofs.Common.{◌≡◌, ℕ, ◌<◌, false, not, ◌&&◌, ◌||◌, eqb, ◌↔◌, get_or, sym, refl, ◌∙◌, subst, arith}
use mathlib.Core.Bool.{beq}
use native.Mathlib.Decide.{dec_lt}
use Rattle.kripke.specs.Words.{SameWords}
use Rattle.kripke.specs.Models.{Kripke, WellFormed}
use Rattle.kripke.specs.Paths.{Move}
use Rattle.kripke.specs.Relation.{NEXT, LOOP, Related}
use Rattle.kripke.specs.Numbering.{First}
use Rattle.kripke.specs.Reduced.{Rising, Reduces}
use Rattle.worked.specs.Tables.{any, every, look}
use Rattle.worked.specs.Decisions.{outside, loops, move?, below, rising?, reduces?}
use Rattle.worked.proofs.Tests.{Tells, turned, both, refuted, implies, equals, tells_eq, tells_bool, tells_any, tells_every}
use Rattle.worked.proofs.Relating.{draws_outside, lists_loops}
use Rattle.worked.proofs.Rows.{Below, tells_below, tells_rising, tells_move}

module _ (M : Kripke) (formed : WellFormed M) (r : ℕ) (c : ℕ → ℕ) (m : ℕ) (R : Kripke) (whole : WellFormed R) where
  abbrev n : ℕ
  n = M.frame.size

  -- a state that no earlier one shares its class with has the words of its class
  abbrev Says : ℕ → Type 0
  Says s = ((t : ℕ) → t < s → c t ≡ c s → ⊥) → (a : ℕ) → a < M.labels.count → R.labels.words (c s) a ≡ M.labels.words s a

  tells-says : (s : ℕ) → Tells (Says s)
      (not (every s (λ t. not (eqb (c t) (c s)))) || every M.labels.count (λ a. beq (R.labels.words (c s) a) (M.labels.words s a)))
  tells-says s =
      implies (tells_every s (λ t. c t ≡ c s → ⊥) (λ t. not (eqb (c t) (c s))) (λ t _. refuted (tells_eq (c t) (c s))))
      (tells_every M.labels.count (λ a. R.labels.words (c s) a ≡ M.labels.words s a) (λ a. beq (R.labels.words (c s) a) (M.labels.words s a))
      (λ a _. tells_bool (R.labels.words (c s) a) (M.labels.words s a)))

  says_first : R.labels.count ≡ M.labels.count → ((s : ℕ) → s < n → Says s) →
      (i s : ℕ) → First n c i s → SameWords (R.labels.words i) (M.labels.words s)
  says_first e p i s f a = elim (dec_lt a M.labels.count) [
    | yes h ↦ subst (λ x. R.labels.words x a ≡ M.labels.words s a) f.has (p s f.state (λ t l q. f.none_before t l (q ∙ f.has)) a h)
    | no o ↦ whole.labels.within i a (omega arith) ∙ sym (formed.labels.within s a (omega arith))
  ]

  -- from the class i, NEXT has a state of the class j
  abbrev Goes : ℕ → ℕ → Type 0
  Goes i j = (s t : ℕ) × (s < n) × (c s ≡ i) × NEXT M.frame (Related M r) s t × (c t ≡ j)

  tells-goes : (i j : ℕ) → Tells (Goes i j) (any n (λ s. eqb (c s) i && any n (λ t. look (outside M r) s t && eqb (c t) j)))
  tells-goes i j =
      turned (λ p. (p.0, p.2.1.0, p.1, p.2.0, p.2.1.2.0, p.2.1.2.1)) (λ p. (p.0, p.2, (p.3, (p.1, p.4.3.2, (p.4, p.5)))))
      (tells_any n (λ s. (c s ≡ i) × ((t : ℕ) × (t < n) × (NEXT M.frame (Related M r) s t × (c t ≡ j))))
      (λ s. eqb (c s) i && any n (λ t. look (outside M r) s t && eqb (c t) j))
      (λ s h. both (tells_eq (c s) i) (tells_any n (λ t. NEXT M.frame (Related M r) s t × (c t ≡ j)) (λ t. look (outside M r) s t && eqb (c t) j)
      (λ t k. both (draws_outside M formed r s t h k) (tells_eq (c t) j)))))

  -- a member of the class i has a LOOP
  abbrev Turns : ℕ → Type 0
  Turns i = (s : ℕ) × (s < n) × (c s ≡ i) × LOOP M.frame (Related M r) s

  tells-turns : (i : ℕ) → Tells (Turns i) (any n (λ s. eqb (c s) i && get_or (loops M r) s false))
  tells-turns i =
      turned (λ p. (p.0, p.1, p.2.0, p.2.1)) (λ p. (p.0, p.1, (p.2, p.3)))
      (tells_any n (λ s. (c s ≡ i) × LOOP M.frame (Related M r) s) (λ s. eqb (c s) i && get_or (loops M r) s false)
      (λ s h. both (tells_eq (c s) i) (lists_loops M formed r s h)))

  pub tells_reduces : Tells (Reduces M (Related M r) c m R) (reduces? M r c m R)
  unfolding reduces?
  tells_reduces =
      turned
      (λ p. record {
        sized = p.0;
        spoken = p.1.0;
        says = says_first p.1.0 p.1.1.0;
        goes = λ i j h k. p.1.1.1.0 i h j k;
        turns = p.1.1.1.1.0;
        rising = λ i h. (p.1.1.1.1.1 i h).0;
        lands = λ i k h. (p.1.1.1.1.1 i h).1 k;
      })
      (λ q. (
        q.sized,
        (
          q.spoken,
          (
            (λ s h new a _. q.says (c s) s (record { state = h; has = refl; none_before = new }) a),
            ((λ i h j k. q.goes i j h k), (q.turns, λ i h. (q.rising i h, λ k. q.lands i k h))),
          ),
        ),
      ))
      (both (tells_eq R.frame.size m) (both (tells_eq R.labels.count M.labels.count)
      (both
      (tells_every n Says (λ s. not (every s (λ t. not (eqb (c t) (c s)))) || every M.labels.count (λ a. beq (R.labels.words (c s) a) (M.labels.words s a)))
      (λ s _. tells-says s))
      (both
      (tells_every m (λ i. (j : ℕ) → j < m → (j ≡ i → ⊥) → Move R.frame i j ↔ Goes i j)
      (λ i. every m (λ j. not (not (eqb j i)) || beq (move? R.frame i j) (any n (λ s. eqb (c s) i && any n (λ t. look (outside M r) s t && eqb (c t) j)))))
      (λ i _. tells_every m (λ j. (j ≡ i → ⊥) → Move R.frame i j ↔ Goes i j)
      (λ j. not (not (eqb j i)) || beq (move? R.frame i j) (any n (λ s. eqb (c s) i && any n (λ t. look (outside M r) s t && eqb (c t) j))))
      (λ j _. implies (refuted (tells_eq j i)) (equals (tells_move R.frame i j) (tells-goes i j)))))
      (both
      (tells_every m (λ i. Move R.frame i i ↔ Turns i) (λ i. beq (move? R.frame i i) (any n (λ s. eqb (c s) i && get_or (loops M r) s false)))
      (λ i _. equals (tells_move R.frame i i) (tells-turns i)))
      (tells_every m (λ i. Rising (R.frame.row i) × Below m (R.frame.row i)) (λ i. rising? (R.frame.row i) && below m (R.frame.row i))
      (λ i _. both (tells_rising (R.frame.row i)) (tells_below m (R.frame.row i)))))))))
