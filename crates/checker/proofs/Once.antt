-- A check is refused for one reason at most, and for none where it is accepted.
use Rattle.std.proofs.Common.{◌≡◌, ℕ, ◌<◌, ◌⊎◌, List, length, sym, refl, ap, subst, inl, inr, ⊎_elim, arith}
use Rattle.std.proofs.lemmas.Bool.{cases_order}
use Rattle.kripke.specs.Models.{Kripke}
use Rattle.survey.proofs.Once.{gap_once, gap_never}
use Rattle.checker.specs.declared.steps.Step.{Step}
use Rattle.checker.specs.declared.steps.Step.TheVariants.{True, Word, Not, Or, Until, Globally}
use Rattle.checker.specs.declared.steps.Malformed.{Malformed}
use Rattle.checker.specs.declared.steps.Malformed.TheVariants.{Length, UnknownWord, TooFewOperands, NotOneLeft}
use Rattle.checker.specs.declared.steps.Refused.{Refused}
use Rattle.checker.specs.declared.steps.Refused.TheVariants.{Model, Steps, ShortMarks}
use Rattle.checker.specs.Reading.{takes}
use Rattle.checker.specs.Reading.{Malforms, Readable, Counted, Fine, FineBelow, Known, step_at, operands}
use Rattle.checker.specs.Refusals.{Refuses, Accepts}
use Rattle.checker.specs.Claims.{OneRefusal}

-- what is wrong with one step
abbrev Bad : ℕ → List Step → ℕ → Type 0
Bad count steps i = (Known count (step_at steps i) → ⊥) ⊎ (operands steps i < takes (step_at steps i))

bad_fine : (count : ℕ) (steps : List Step) (i : ℕ) → Bad count steps i → Fine count steps i → ⊥
bad_fine count steps i b f = ⊎_elim (λ n. n f.0) (λ l. omega (arith, f.1)) b

first_bad : (count : ℕ) (steps : List Step) (i j : ℕ) → FineBelow count steps i → FineBelow count steps j → Bad count steps i → Bad count steps j → i ≡ j
first_bad count steps i j fi fj bi bj = ⊎_elim (λ e. e)
    (⊎_elim (λ l. absurd (bad_fine count steps i bi (fj i l))) (λ l. absurd (bad_fine count steps j bj (fi j l))))
    (cases_order i j)

-- a step with a word takes no operands
one_way : (count : ℕ) (x : Step) (n : ℕ) → (Known count x → ⊥) → n < takes x → ⊥
one_way count True n p q = p tt
one_way count (Word a) n p q = omega arith
one_way count Not n p q = p tt
one_way count Or n p q = p tt
one_way count Until n p q = p tt
one_way count Globally n p q = p tt

not_counted : (steps : List Step) → (length steps ≡ 0) ⊎ (64 < length steps) → Counted steps → ⊥
not_counted steps p c = ⊎_elim (λ e. omega (arith, c.0)) (λ l. omega (arith, c.1)) p

fault_once : (count : ℕ) (steps : List Step) (a b : Malformed) → Malforms count steps a → Malforms count steps b → a ≡ b
fault_once count steps Length Length p q = refl
fault_once count steps Length (UnknownWord j) p q = absurd (not_counted steps p q.0)
fault_once count steps Length (TooFewOperands j) p q = absurd (not_counted steps p q.0)
fault_once count steps Length NotOneLeft p q = absurd (not_counted steps p q.0)
fault_once count steps (UnknownWord i) Length p q = absurd (not_counted steps q p.0)
fault_once count steps (UnknownWord i) (UnknownWord j) p q = ap UnknownWord (first_bad count steps i j p.2 q.2 (inl p.3) (inl q.3))
fault_once count steps (UnknownWord i) (TooFewOperands j) p q =
    let e = first_bad count steps i j p.2 q.2 (inl p.3) (inr q.3) in
    absurd (one_way count (step_at steps j) (operands steps j) (subst (λ (r : ℕ). Known count (step_at steps r) → ⊥) e p.3) q.3)
fault_once count steps (UnknownWord i) NotOneLeft p q = absurd (p.3 (q.1 i p.1).0)
fault_once count steps (TooFewOperands i) Length p q = absurd (not_counted steps q p.0)
fault_once count steps (TooFewOperands i) (UnknownWord j) p q =
    let e = first_bad count steps i j p.2 q.2 (inr p.3) (inl q.3) in
    absurd (one_way count (step_at steps i) (operands steps i) (subst (λ (r : ℕ). Known count (step_at steps r) → ⊥) (sym e) q.3) p.3)
fault_once count steps (TooFewOperands i) (TooFewOperands j) p q = ap TooFewOperands (first_bad count steps i j p.2 q.2 (inr p.3) (inr q.3))
fault_once count steps (TooFewOperands i) NotOneLeft p q = absurd (bad_fine count steps i (inr p.3) (q.1 i p.1))
fault_once count steps NotOneLeft Length p q = absurd (not_counted steps q p.0)
fault_once count steps NotOneLeft (UnknownWord j) p q = absurd (q.3 (p.1 j q.1).0)
fault_once count steps NotOneLeft (TooFewOperands j) p q = absurd (bad_fine count steps j (inr q.3) (p.1 j q.1))
fault_once count steps NotOneLeft NotOneLeft p q = refl

fault_never : (count : ℕ) (steps : List Step) (a : Malformed) → Malforms count steps a → Readable count steps → ⊥
fault_never count steps Length p r = not_counted steps p r.0
fault_never count steps (UnknownWord i) p r = p.3 (r.1 i p.1).0
fault_never count steps (TooFewOperands i) p r = bad_fine count steps i (inr p.3) (r.1 i p.1)
fault_never count steps NotOneLeft p r = p.2 r.2

once : (M : Kripke) (steps : List Step) (n : ℕ) (a b : Refused) → Refuses M steps n a → Refuses M steps n b → a ≡ b
once M steps n (Model g) (Model h) p q = ap Model (gap_once M.frame g h p q)
once M steps n (Model g) (Steps t) p q = absurd (gap_never M.frame g p q.0)
once M steps n (Model g) ShortMarks p q = absurd (gap_never M.frame g p q.0)
once M steps n (Steps s) (Model h) p q = absurd (gap_never M.frame h q p.0)
once M steps n (Steps s) (Steps t) p q = ap Steps (fault_once M.labels.count steps s t p.1 q.1)
once M steps n (Steps s) ShortMarks p q = absurd (fault_never M.labels.count steps s p.1 q.1)
once M steps n ShortMarks (Model h) p q = absurd (gap_never M.frame h q p.0)
once M steps n ShortMarks (Steps t) p q = absurd (fault_never M.labels.count steps t q.1 p.1)
once M steps n ShortMarks ShortMarks p q = refl

never : (M : Kripke) (steps : List Step) (n : ℕ) (a : Refused) → Refuses M steps n a → Accepts M steps n → ⊥
never M steps n (Model g) p q = gap_never M.frame g p q.0
never M steps n (Steps s) p q = fault_never M.labels.count steps s p.1 q.1
never M steps n ShortMarks p q = omega (arith, p.2, q.2)

pub one_refusal_lem : OneRefusal
one_refusal_lem = record { one = once; none = never }
