-- Which lists of steps can be read as a formula, and what is wrong with one that cannot.
use Rattle.std.specs.Prelude.{◌≡◌, ℕ, ◌+◌, ◌-◌, ◌<◌, ◌≤◌, ◌⊎◌, List, [], ◌∷◌, length, take, ◌≢◌, slice_index_or}
use Rattle.checker.specs.declared.steps.Step.{Step}
use Rattle.checker.specs.declared.steps.Step.TheVariants.{True, Word, Not, Or, Until, Globally}
use Rattle.checker.specs.declared.steps.Malformed.{Malformed}
use Rattle.checker.specs.declared.steps.Malformed.TheVariants.{Length, UnknownWord, TooFewOperands, NotOneLeft}

-- the number of each cause
abbrev pub malformed_cause : Malformed → ℕ
malformed_cause Length = 31
malformed_cause (TooFewOperands i) = 32
malformed_cause NotOneLeft = 33
malformed_cause (UnknownWord i) = 34

-- the step that is wrong, or 0 if none is
abbrev pub malformed_place : Malformed → ℕ
malformed_place Length = 0
malformed_place (TooFewOperands i) = i
malformed_place NotOneLeft = 0
malformed_place (UnknownWord i) = i

-- how many operands a step takes; it leaves one
abbrev pub takes : Step → ℕ
takes True = 0
takes (Word a) = 0
takes Not = 1
takes Or = 2
takes Until = 2
takes Globally = 1

-- how many operands the steps leave, where h stood before them
abbrev pub left_by : ℕ → List Step → ℕ
left_by h [] = h
left_by h (x ∷ xs) = left_by (h - takes x + 1) xs

-- step i of the list
abbrev pub step_at : List Step → ℕ → Step
step_at steps i = slice_index_or steps i True

-- the operands that stand before step i
abbrev pub operands : List Step → ℕ → ℕ
operands steps i = left_by 0 (take i steps)

-- the word of a step, if it has one, is below the count
abbrev pub Known : ℕ → Step → Type 0
Known count True = Unit {0}
Known count (Word a) = a < count
Known count Not = Unit {0}
Known count Or = Unit {0}
Known count Until = Unit {0}
Known count Globally = Unit {0}

-- step i has its word and its operands
abbrev pub Fine : ℕ → List Step → ℕ → Type 0
Fine count steps i = Known count (step_at steps i) × (takes (step_at steps i) ≤ operands steps i)

abbrev pub FineBelow : ℕ → List Step → ℕ → Type 0
FineBelow count steps n = (i : ℕ) → i < n → Fine count steps i

-- there are steps, and not too many
abbrev pub Counted : List Step → Type 0
Counted steps = (0 < length steps) × (length steps ≤ 64)

-- the steps have this fault, and none that is looked for earlier
abbrev pub Malforms : ℕ → List Step → Malformed → Type 0
Malforms count steps Length = (length steps ≡ 0) ⊎ (64 < length steps)
Malforms count steps (UnknownWord i) = Counted steps × (i < length steps) × FineBelow count steps i × (Known count (step_at steps i) → ⊥)
Malforms count steps (TooFewOperands i) = Counted steps × (i < length steps) × FineBelow count steps i × (operands steps i < takes (step_at steps i))
Malforms count steps NotOneLeft = Counted steps × FineBelow count steps (length steps) × (left_by 0 steps ≢ 1)

-- the steps have none of these faults
abbrev pub Readable : ℕ → List Step → Type 0
Readable count steps = Counted steps × FineBelow count steps (length steps) × (left_by 0 steps ≡ 1)
