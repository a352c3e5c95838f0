-- The stack of operands, and one step more.
use Rattle.std.proofs.Common.{◌≡◌, ℕ, ◌+◌, ◌-◌, ◌<◌, ◌≤◌, ◌↔◌, List, [], ◌∷◌, length, get_or, take, drop, sym, refl, ◌∙◌, subst, arith}
use Rattle.stack.specs.Held.{Held}
use Rattle.sets.specs.declared.Set.{Set}
use Rattle.sets.specs.Sets.{In, none}
use Rattle.kripke.specs.Models.{Kripke}
use Rattle.kripke.specs.Paths.{Move}
use Rattle.kripke.specs.Formulas.{Formula, Holds, top}
use Rattle.checker.specs.declared.steps.Step.{Step}
use Rattle.checker.specs.declared.steps.Step.TheVariants.{True, Word, Not, Or, Until, Globally}
use Rattle.checker.specs.Steps.{Denotes}
use Rattle.checker.specs.Reading.{takes, left_by, step_at}
use Rattle.checker.specs.Marks.{SetIs, TrueAt}
use Rattle.checker.proofs.Counts.{operands-all}
use Rattle.checker.proofs.Operators.{step_over}
use Rattle.checker.proofs.Spelling.{after, Reads, reads_more, denotes_one}

-- the sets are those of the formulas, one for each
abbrev pub SetsAre : Kripke → List Formula → List Set → Type 0
SetsAre M [] [] = Unit {0}
SetsAre M [] (x ∷ xs) = ⊥
SetsAre M (f ∷ fs) [] = ⊥
SetsAre M (f ∷ fs) (x ∷ xs) = SetIs M f x × SetsAre M fs xs

as_many : (M : Kripke) (fs : List Formula) (xs : List Set) → SetsAre M fs xs → length fs ≡ length xs
as_many M [] [] is = refl
as_many M [] (x ∷ xs) is = absurd is
as_many M (f ∷ fs) [] is = absurd is
as_many M (f ∷ fs) (x ∷ xs) is = omega (arith, as_many M fs xs is.1)

-- after the first i steps, the operands are the sets of formulas whose steps these are
pub record Stacked (M : Kripke) (steps : List Step) (i : ℕ) (operands : Held Set) : Type 0 where
  pub fs : List Formula
  pub reads : Reads steps i fs
  pub sets : SetsAre M fs operands.held
  pub room : operands.room ≡ 64

pub stands : (M : Kripke) (steps : List Step) (i : ℕ) (operands : Held Set) → Stacked M steps i operands →
    (length operands.held ≡ left_by 0 (take i steps)) × (length operands.held ≤ i)
stands M steps i operands st =
    let e = as_many M st.fs operands.held st.sets in
    (sym e ∙ st.reads.count, omega (arith, e, st.reads.few))

module _ (M : Kripke) where
  -- the set has the states where a step is true of the sets of its operands
  abbrev Made : Step → (x y v : Set) → Type 0
  Made step x y v = (s : ℕ) → s < M.frame.size → In v s ↔ TrueAt (Move M.frame) M.frame.size M.labels.words step (In x) (In y) s

  -- it has those where the step is true of their formulas
  made-is : (step : Step) (f g : Formula) (x y v : Set) → (1 ≤ takes step → SetIs M f x) → (2 ≤ takes step → SetIs M g y) → Made step x y v →
      (s : ℕ) → s < M.frame.size → In v s ↔ TrueAt (Move M.frame) M.frame.size M.labels.words step (Holds M f) (Holds M g) s
  made-is step f g x y v p q made s h =
      let over = step_over M.frame.size (Move M.frame) (λ a b l p. (p.2, p)) M.labels.words (In x) (Holds M f) (In y) (Holds M g) step p q s h in
      (λ i. over.0 ((made s h).0 i), λ i. (made s h).1 (over.1 i))

  sets-after : (step : Step) (fs : List Formula) (xs : List Set) (v : Set) → takes step ≤ length fs → SetsAre M fs xs →
      Made step (get_or xs (takes step - 1) none) (get_or xs 0 none) v → SetsAre M (after step fs) (v ∷ drop (takes step) xs)
  sets-after True fs xs v h is made = (made-is True top top none none v (λ n. absurd (omega arith)) (λ n. absurd (omega arith)) made, is)
  sets-after (Word a) fs xs v h is made = (made-is (Word a) top top none none v (λ n. absurd (omega arith)) (λ n. absurd (omega arith)) made, is)
  sets-after Not [] xs v h is made = absurd (omega arith)
  sets-after Not (f ∷ fs) [] v h is made = absurd is
  sets-after Not (f ∷ fs) (x ∷ xs) v h is made = (made-is Not f f x x v (λ _. is.0) (λ _. is.0) made, is.1)
  sets-after Or [] xs v h is made = absurd (omega arith)
  sets-after Or (g ∷ []) xs v h is made = absurd (omega arith)
  sets-after Or (g ∷ f ∷ fs) [] v h is made = absurd is
  sets-after Or (g ∷ f ∷ fs) (y ∷ []) v h is made = absurd is.1
  sets-after Or (g ∷ f ∷ fs) (y ∷ x ∷ xs) v h is made = (made-is Or f g x y v (λ _. is.1.0) (λ _. is.0) made, is.1.1)
  sets-after Until [] xs v h is made = absurd (omega arith)
  sets-after Until (g ∷ []) xs v h is made = absurd (omega arith)
  sets-after Until (g ∷ f ∷ fs) [] v h is made = absurd is
  sets-after Until (g ∷ f ∷ fs) (y ∷ []) v h is made = absurd is.1
  sets-after Until (g ∷ f ∷ fs) (y ∷ x ∷ xs) v h is made = (made-is Until f g x y v (λ _. is.1.0) (λ _. is.0) made, is.1.1)
  sets-after Globally [] xs v h is made = absurd (omega arith)
  sets-after Globally (f ∷ fs) [] v h is made = absurd is
  sets-after Globally (f ∷ fs) (x ∷ xs) v h is made = (made-is Globally f f x x v (λ _. is.0) (λ _. is.0) made, is.1)

  -- the operands of a step make way for the one that it leaves
  pub stacked_more : (steps : List Step) (i : ℕ) (operands operands' : Held Set) (v : Set) → i < length steps → takes (step_at steps i) ≤ length operands.held →
      Stacked M steps i operands → Made (step_at steps i) (get_or operands.held (takes (step_at steps i) - 1) none) (get_or operands.held 0 none) v →
      operands' ≡ record operands { held = v ∷ drop (takes (step_at steps i)) operands.held } → Stacked M steps (i + 1) operands'
  stacked_more steps i operands operands' v l h st made e =
      let enough : takes (step_at steps i) ≤ length st.fs = omega (arith, h, as_many M st.fs operands.held st.sets) in
      subst (λ (x : Held Set). Stacked M steps (i + 1) x) (sym e) (record {
        fs = after (step_at steps i) st.fs;
        reads = reads_more steps i st.fs l enough st.reads;
        sets = sets-after (step_at steps i) st.fs operands.held v enough st.sets made;
        room = st.room;
      })

-- all steps leave one operand
pub one_left : (M : Kripke) (steps : List Step) (i : ℕ) (operands : Held Set) → Stacked M steps i operands → length steps ≤ i → left_by 0 steps ≡ 1 →
    length operands.held ≡ 1
one_left M steps i operands st l one = (stands M steps i operands st).0 ∙ operands-all steps i l ∙ one

-- it is the set of the formula that they denote
pub whole : (M : Kripke) (steps : List Step) (i : ℕ) (operands : Held Set) → Stacked M steps i operands → length steps ≤ i → left_by 0 steps ≡ 1 →
    (x : Set) (xs : List Set) → operands.held ≡ x ∷ xs → (f : Formula) × Denotes steps f × SetIs M f x
whole M steps i operands st l one x xs e =
    let d = denotes_one steps i st.fs l one st.reads in
    let is = subst (λ (ys : List Set). SetsAre M (d.0 ∷ []) ys) e (subst (λ (fs : List Formula). SetsAre M fs operands.held) d.1 st.sets) in
    (d.0, d.2, is.0)
