-- Formulas written as steps in postfix order, and the formula that steps denote.
use Rattle.std.specs.Prelude.{◌≡◌, ℕ, ◌<◌, List, [], ◌∷◌, ◌++◌}
use Rattle.kripke.specs.Formulas.{Formula, top, word, neg, or, until, globally}
use Rattle.checker.specs.declared.steps.Step.{Step}
use Rattle.checker.specs.declared.steps.Step.TheVariants.{True, Word, Not, Or, Until, Globally}

-- the steps of a formula: those of its operands, the first before the second, and then its own
abbrev pub postfix : Formula → List Step
postfix top = True ∷ []
postfix (word a) = Word a ∷ []
postfix (neg f) = postfix f ++ (Not ∷ [])
postfix (or f g) = postfix f ++ (postfix g ++ (Or ∷ []))
postfix (until f g) = postfix f ++ (postfix g ++ (Until ∷ []))
postfix (globally f) = postfix f ++ (Globally ∷ [])

-- the formula that the steps denote
abbrev pub Denotes : List Step → Formula → Type 0
Denotes steps f = steps ≡ postfix f

-- each word of the formula is below the count
abbrev pub Utters : ℕ → Formula → Type 0
Utters count top = Unit {0}
Utters count (word a) = a < count
Utters count (neg f) = Utters count f
Utters count (or f g) = Utters count f × Utters count g
Utters count (until f g) = Utters count f × Utters count g
Utters count (globally f) = Utters count f
