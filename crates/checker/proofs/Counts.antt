-- The operands that one step more leaves.
use Rattle.std.proofs.Common.{◌≡◌, ℕ, ◌+◌, ◌-◌, ◌<◌, ◌≤◌, List, [], ◌∷◌, ◌++◌, length, take, refl, ap, ◌∙◌}
use Rattle.std.proofs.lemmas.List.{take_more, take_all}
use Rattle.checker.specs.declared.steps.Step.{Step}
use Rattle.checker.specs.declared.steps.Step.TheVariants.{True}
use Rattle.checker.specs.Reading.{takes, left_by, operands, step_at}

left_by_push : (h : ℕ) (xs : List Step) (x : Step) → left_by h (xs ++ (x ∷ [])) ≡ left_by h xs - takes x + 1
left_by_push h [] x = refl
left_by_push h (y ∷ xs) x = left_by_push (h - takes y + 1) xs x

pub operands_more : (steps : List Step) (i : ℕ) → i < length steps → operands steps (i + 1) ≡ operands steps i - takes (step_at steps i) + 1
operands_more steps i h = ap (left_by 0) (take_more steps i True h) ∙ left_by_push 0 (take i steps) (step_at steps i)

pub operands-all : (steps : List Step) (n : ℕ) → length steps ≤ n → operands steps n ≡ left_by 0 steps
operands-all steps n h = ap (left_by 0) (take_all n steps h)
