-- Which steps denote formulas, and that a check is refused for one reason at most.
use Rattle.std.specs.Prelude.{◌≡◌, ℕ, ◌↔◌, List}
use Rattle.kripke.specs.Models.{Kripke}
use Rattle.kripke.specs.Formulas.{Formula}
use Rattle.checker.specs.declared.steps.Step.{Step}
use Rattle.checker.specs.declared.steps.Refused.{Refused}
use Rattle.checker.specs.Steps.{Denotes, Utters}
use Rattle.checker.specs.Reading.{Counted, Readable}
use Rattle.checker.specs.Refusals.{Refuses, Accepts}

-- steps denote one formula at most
abbrev pub OneFormula : Type 0
OneFormula = (steps : List Step) (f g : Formula) → Denotes steps f → Denotes steps g → f ≡ g

-- of lists of steps that are not too long, those are readable that denote a formula with words below the count
abbrev pub ReadableFormulas : Type 0
ReadableFormulas = (count : ℕ) (steps : List Step) → Counted steps → Readable count steps ↔ ((f : Formula) × Denotes steps f × Utters count f)

-- a check is refused for one reason at most, and for none where it is accepted
pub record OneRefusal : Type 0 where
  pub one : (M : Kripke) (steps : List Step) (marks : ℕ) (a b : Refused) → Refuses M steps marks a → Refuses M steps marks b → a ≡ b
  pub none : (M : Kripke) (steps : List Step) (marks : ℕ) (a : Refused) → Refuses M steps marks a → Accepts M steps marks → ⊥
