-- What each call answers of a model after r rounds.
use Rattle.std.specs.Prelude.{◌≡◌, ℕ, suc, ◌+◌, ◌-◌, ◌<◌, ◌≤◌, min, Bool, false, ◌⊎◌, Some, None, Decides, Result, MatchResult}
use Rattle.kripke.specs.Models.{Kripke, Alike}
use Rattle.kripke.specs.Components.{Components}
use Rattle.survey.specs.Gaps.{Gaps, Sized, Admitted}
use Rattle.survey.specs.declared.gaps.Gap.{Gap}
use Rattle.survey.specs.declared.gaps.Gap.TheVariants.{NoStates, TooMany, EmptyRow, Nowhere}
use Rattle.merger.specs.declared.answers.Opened.{Opened}
use Rattle.merger.specs.declared.answers.OpenRefusal.{OpenRefusal}
use Rattle.merger.specs.declared.answers.OpenRefusal.TheVariants.{Lacks, ShortScratch}
use Rattle.kripke.specs.Formulas.{Agree}
use Rattle.kripke.specs.Relation.{Related, Settles}
use Rattle.merger.specs.declared.answers.Refusal.{Refusal}
use Rattle.merger.specs.declared.answers.Made.{Made}
use Rattle.merger.specs.declared.answers.Ran.{Ran}
use Rattle.merger.specs.declared.answers.Summary.{Summary}
use Rattle.merger.specs.Refusals.{Refused}
use Rattle.merger.specs.declared.reduced.Reduced.{Reduced}
use Rattle.merger.specs.Promise.{Classes, Told}
use Rattle.merger.specs.Reducing.{meaning, Fills}

-- there is memory for as many walk records and state numbers as there are states
abbrev pub Roomy : Kripke → (walks states : ℕ) → Type 0
Roomy M walks states = (M.frame.size ≤ walks) × (M.frame.size ≤ states)

-- the rows are looked at where there is enough memory for the states
abbrev pub AfterScratch : Kripke → (walks states : ℕ) → Gap → Type 0
AfterScratch M walks states NoStates = Unit {0}
AfterScratch M walks states TooMany = Unit {0}
AfterScratch M walks states (EmptyRow s) = Roomy M walks states
AfterScratch M walks states (Nowhere s k) = Roomy M walks states

-- M is refused for this cause, and for none that is looked for earlier, with memory for so many walk records and state numbers
abbrev pub OpenRefuses : Kripke → (walks states : ℕ) → OpenRefusal → Type 0
OpenRefuses M walks states (Lacks gap) = Gaps M.frame gap × AfterScratch M walks states gap
OpenRefuses M walks states ShortScratch = Sized M.frame × ((walks < M.frame.size) ⊎ (states < M.frame.size))

-- M is accepted: its states, its components and its classes of alike states are counted
pub record OpenTells (M : Kripke) (walks numbers : ℕ) (x : Opened) : Type 0 where
  pub admitted : Admitted M.frame
  pub roomy : Roomy M walks numbers
  pub states : x.states ≡ M.frame.size
  pub components : (f : ℕ → ℕ) × Components M.frame (Alike M) f x.components
  pub labels : (f : ℕ → ℕ) × Classes M 0 f x.labels

-- one more round: how many there are, how many classes C of so many rounds has, and whether the last one settled
pub record RoundTells (M : Kripke) (r : ℕ) (answer : Result Made Refusal) : Type 0 where
  pub settled : Settles M r → Refused answer 22 None
  pub made : (Settles M r → ⊥) →
      MatchResult answer (λ x. (x.rounds ≡ suc r) × ((f : ℕ → ℕ) × Classes M (suc r) f x.classes) × Decides x.settled (Settles M (suc r))) (λ _. ⊥)

-- the smaller of the budget and the rounds left up to the settling one, z, and whether that is made
abbrev pub RunTells : Kripke → ℕ → ℕ → Result Ran Refusal → Type 0
RunTells M r budget answer =
    MatchResult answer (λ x. (z : ℕ) × Settles M z × (x.rounds ≡ min budget (z - r)) × Decides x.settled (Settles M (r + x.rounds))) (λ _. ⊥)

-- how many states, components, classes of alike states, rounds and classes of C of so many rounds there are
pub record Sums (M : Kripke) (r : ℕ) (x : Summary) : Type 0 where
  pub states : x.states ≡ M.frame.size
  pub components : (f : ℕ → ℕ) × Components M.frame (Alike M) f x.components
  pub labels : (f : ℕ → ℕ) × Classes M 0 f x.labels
  pub rounds : x.rounds ≡ r
  pub classes : (f : ℕ → ℕ) × Classes M r f x.classes
  pub settled : Decides x.settled (Settles M r)

-- the number of the class of s
pub record ClassTells (M : Kripke) (r s : ℕ) (answer : Result ℕ Refusal) : Type 0 where
  pub outside : M.frame.size ≤ s → Refused answer 23 (Some s)
  pub told : s < M.frame.size → MatchResult answer (λ c. (f : ℕ → ℕ) (m : ℕ) → Classes M r f m → c ≡ f s) (λ _. ⊥)

-- whether s and t share a class; once settled, whether no formula tells them apart
pub record TogetherTells (M : Kripke) (r s t : ℕ) (answer : Result Bool Refusal) : Type 0 where
  pub first : M.frame.size ≤ s → Refused answer 23 (Some s)
  pub second : s < M.frame.size → M.frame.size ≤ t → Refused answer 23 (Some t)
  pub told : s < M.frame.size → t < M.frame.size →
      MatchResult answer (λ b. Decides b (Related M r s t) × (Settles M r → Decides b (Agree M s M t)) × (b ≡ false → Told M r s t)) (λ _. ⊥)

-- once settled, the model y that was given as x is filled; before that it is refused, and left as it was
pub record ReducedTells (M : Kripke) (r : ℕ) (x y : Reduced) (answer : Result (Unit {0}) Refusal) : Type 0 where
  pub going : (Settles M r → ⊥) → Refused answer 24 None × (y ≡ x)
  pub settled : Settles M r → MatchResult answer (λ _. Fills M r (meaning y)) (λ _. ⊥)
