-- Truth carried over to other operands, and paths to other moves as well, among the states below n.
use Rattle.std.proofs.Common.{ℕ, zero, suc, ◌<◌, ◌≤◌, ◌↔◌, List, inl, inr, ⊎_elim, arith}
use Rattle.kripke.specs.Words.{Words}
use Rattle.kripke.specs.Models.{Frame}
use Rattle.kripke.specs.Paths.{Move, Until as Ends, Stays}
use Rattle.sets.specs.declared.Set.{Set}
use Rattle.sets.specs.Sets.{In}
use Rattle.survey.specs.Gaps.{Linked}
use Rattle.checker.specs.declared.steps.Step.{Step}
use Rattle.checker.specs.declared.steps.Step.TheVariants.{True, Word, Not, Or, Until, Globally}
use Rattle.checker.specs.Reading.{takes}
use Rattle.checker.specs.Tables.{Goes}
use Rattle.checker.specs.Marks.{TrueAt}

-- from a state below n, a move by R is one by R', and goes to a state below n
abbrev pub Carries : ℕ → (ℕ → ℕ → Type 0) → (ℕ → ℕ → Type 0) → Type 0
Carries n R R' = (s t : ℕ) → s < n → R s t → (t < n) × R' s t

module _ (n : ℕ) (R R' : ℕ → ℕ → Type 0) (moves : Carries n R R') (P P' : ℕ → Type 0) (holds : (s : ℕ) → s < n → P s → P' s) where
  stays-over : (k s : ℕ) → s < n → Stays R P k s → Stays R' P' k s
  stays-over zero s h p = holds s h p
  stays-over (suc k) s h p =
      let m = moves s p.0 h p.2 in
      (p.0, holds s h p.1, m.1, stays-over k p.0 m.0 p.3)

  ends-over : (Q Q' : ℕ → Type 0) → ((s : ℕ) → s < n → Q s → Q' s) → (k s : ℕ) → s < n → Ends R P Q k s → Ends R' P' Q' k s
  ends-over Q Q' ends zero s h p = ends s h p
  ends-over Q Q' ends (suc k) s h p =
      let m = moves s p.0 h p.2 in
      (p.0, holds s h p.1, m.1, ends-over Q Q' ends k p.0 m.0 p.3)

-- the same of every state below n
abbrev pub SameAt : ℕ → (ℕ → Type 0) → (ℕ → Type 0) → Type 0
SameAt n P P' = (s : ℕ) → s < n → P s ↔ P' s

-- a step asks only for the operands that it takes
pub step_over : (n : ℕ) (R : ℕ → ℕ → Type 0) → Carries n R R → (words : ℕ → Words) (P P' Q Q' : ℕ → Type 0) (x : Step) →
    (1 ≤ takes x → SameAt n P P') → (2 ≤ takes x → SameAt n Q Q') → SameAt n (TrueAt R n words x P Q) (TrueAt R n words x P' Q')
step_over n R moves words P P' Q Q' True p q s h = (λ t. t, λ t. t)
step_over n R moves words P P' Q Q' (Word a) p q s h = (λ t. t, λ t. t)
step_over n R moves words P P' Q Q' Not p q s h =
    let e = p (omega arith) s h in
    (λ no y. no (e.1 y), λ no y. no (e.0 y))
step_over n R moves words P P' Q Q' Or p q s h =
    let e = p (omega arith) s h in
    let d = q (omega arith) s h in
    (⊎_elim (λ y. inl (e.0 y)) (λ y. inr (d.0 y)), ⊎_elim (λ y. inl (e.1 y)) (λ y. inr (d.1 y)))
step_over n R moves words P P' Q Q' Until p q s h =
    let e = p (omega arith) in
    let d = q (omega arith) in (
      λ y. (y.0, ends-over n R R moves P P' (λ t l. (e t l).0) Q Q' (λ t l. (d t l).0) y.0 s h y.1),
      λ y. (y.0, ends-over n R R moves P' P (λ t l. (e t l).1) Q' Q (λ t l. (d t l).1) y.0 s h y.1),
    )
step_over n R moves words P P' Q Q' Globally p q s h =
    let e = p (omega arith) in (
      stays-over n R R moves P P' (λ t l. (e t l).0) n s h,
      stays-over n R R moves P' P (λ t l. (e t l).1) n s h,
    )

-- the moves of a table are those of the frame
module _ (F : Frame) (rows : List Set) (linked : Linked F rows) (f : Set) where
  onto : Carries F.size (Goes rows) (Move F)
  onto a b l p = let v = (linked.states a l b).0 p in (v.2, v)

  back : Carries F.size (Move F) (Goes rows)
  back a b l p = (p.2, (linked.states a l b).1 p)

  pub until_linked : (g : Set) (k s : ℕ) → s < F.size → Ends (Goes rows) (In f) (In g) k s ↔ Ends (Move F) (In f) (In g) k s
  until_linked g k s h = (
    ends-over F.size (Goes rows) (Move F) onto (In f) (In f) (λ t l p. p) (In g) (In g) (λ t l p. p) k s h,
    ends-over F.size (Move F) (Goes rows) back (In f) (In f) (λ t l p. p) (In g) (In g) (λ t l p. p) k s h,
  )

  pub stays_linked : (k s : ℕ) → s < F.size → Stays (Goes rows) (In f) k s ↔ Stays (Move F) (In f) k s
  stays_linked k s h = (
    stays-over F.size (Goes rows) (Move F) onto (In f) (In f) (λ t l p. p) k s h,
    stays-over F.size (Move F) (Goes rows) back (In f) (In f) (λ t l p. p) k s h,
  )
