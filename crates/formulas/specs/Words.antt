-- The words that stand for the steps of a formula.
use Rattle.std.specs.Prelude.{◌≡◌, ℕ, ◌<◌, ◌↔◌, List, ◌∷◌, Some, codes, decimal, Option}
use Rattle.checker.specs.declared.steps.Step.{Step}
use Rattle.checker.specs.declared.steps.Step.TheVariants.{True, Word, Not, Or, Until, Globally}

-- the word that stands for a step: a word of the model is written w and its number
abbrev pub written : Step → List ℕ
written True = codes "true"
written (Word a) = 119 ∷ decimal a
written Not = codes "not"
written Or = codes "or"
written Until = codes "EU"
written Globally = codes "EG"

-- a step that can be written: a model has words below 64
abbrev pub Writable : Step → Type 0
Writable True = Unit {0}
Writable (Word a) = a < 64
Writable Not = Unit {0}
Writable Or = Unit {0}
Writable Until = Unit {0}
Writable Globally = Unit {0}

-- the answer is the step that the text stands for, if it stands for one
abbrev pub Reads : List ℕ → Option Step → Type 0
Reads text r = (x : Step) → (r ≡ Some x) ↔ (Writable x × (text ≡ written x))
