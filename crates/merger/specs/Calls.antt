-- What each call of an analysis answers, and what it leaves.
use Rattle.std.specs.Prelude.{◌≡◌, ℕ, Bool, true, false, List, length, IfOk, IfErr, None, Result, MatchResult}
use Rattle.kripke.specs.Models.{Kripke}
use Rattle.merger.specs.declared.analysis.Analysis.{Analysis}
use Rattle.components.specs.declared.marks.Walk.{Walk}
use Rattle.merger.specs.declared.answers.Opened.{Opened}
use Rattle.merger.specs.declared.answers.OpenRefusal.{OpenRefusal}
use Rattle.merger.specs.declared.answers.Refusal.{Refusal}
use Rattle.merger.specs.declared.answers.Made.{Made}
use Rattle.merger.specs.declared.answers.Ran.{Ran}
use Rattle.merger.specs.declared.answers.Summary.{Summary}
use Rattle.merger.specs.declared.reduced.Reduced.{Reduced}
use Rattle.merger.specs.Tables.{class_of}
use Rattle.merger.specs.Analysed.{Tabled}
use Rattle.merger.specs.Refusals.{Refused}
use Rattle.merger.specs.Promise.{Promise, Reaches}
use Rattle.merger.specs.Tells.{OpenTells, OpenRefuses, RoundTells, RunTells, Sums, ClassTells, TogetherTells, ReducedTells}

-- a is opened, and stands for the opened model M after r rounds
pub record Analysed (M : Kripke) (r : ℕ) (a : Analysis) : Type 0 where
  pub opened : a.opened ≡ true
  pub tabled : Tabled M r a.found a.rounds

-- a keeps the promise
abbrev pub Promises : Kripke → ℕ → Analysis → Type 0
Promises M r a = Promise M r (class_of a.found a.rounds) a.rounds.partition.classes

-- b is a after calls that ask for so many rounds: it stands for the same model, after as many rounds as it can, and keeps the promise
abbrev pub Continues : ℕ → Analysis → Analysis → Type 0
Continues asked a b = (M : Kripke) (r : ℕ) → Analysed M r a → (q : ℕ) × Reaches M r asked q × Analysed M q b × Promises M q b

-- an accepted open stands for the model, after no round; a refused one leaves all as it was
abbrev pub OpenAnswer : Kripke → (a b : Analysis) (walks walks' : List Walk) (states states' : List ℕ) → Result Opened OpenRefusal → Type 0
OpenAnswer M a b walks walks' states states' answer = MatchResult answer
    (λ x. OpenTells M (length walks) (length states) x × Analysed M 0 b × Promises M 0 b)
    (λ e. OpenRefuses M (length walks) (length states) e × (b ≡ a) × (walks' ≡ walks) × (states' ≡ states))

pub record RoundAnswer (a b : Analysis) (answer : Result Made Refusal) : Type 0 where
  pub shut : a.opened ≡ false → Refused answer 21 None
  pub told : (M : Kripke) (r : ℕ) → Analysed M r a → RoundTells M r answer
  pub refused : IfErr answer (λ _. b ≡ a)
  pub continues : Continues 1 a b

pub record RunAnswer (a b : Analysis) (budget : ℕ) (answer : Result Ran Refusal) : Type 0 where
  pub shut : a.opened ≡ false → Refused answer 21 None
  pub told : (M : Kripke) (r : ℕ) → Analysed M r a → RunTells M r budget answer
  pub refused : IfErr answer (λ _. b ≡ a)
  pub continues : Continues budget a b

pub record SummaryAnswer (a : Analysis) (answer : Result Summary Refusal) : Type 0 where
  pub shut : a.opened ≡ false → Refused answer 21 None
  pub told : (M : Kripke) (r : ℕ) → Analysed M r a → MatchResult answer (Sums M r) (λ _. ⊥)
  -- the states and the classes counted are those of which a promises
  pub same : IfOk answer (λ x. (x.states ≡ a.found.states) × (x.classes ≡ a.rounds.partition.classes))

pub record ClassAnswer (a : Analysis) (s : ℕ) (answer : Result ℕ Refusal) : Type 0 where
  pub shut : a.opened ≡ false → Refused answer 21 None
  pub told : (M : Kripke) (r : ℕ) → Analysed M r a → ClassTells M r s answer
  -- what it answers is the class of which a promises
  pub class : IfOk answer (λ c. c ≡ class_of a.found a.rounds s)
  pub promises : (M : Kripke) (r : ℕ) → Analysed M r a → Promises M r a

pub record TogetherAnswer (a : Analysis) (s t : ℕ) (answer : Result Bool Refusal) : Type 0 where
  pub shut : a.opened ≡ false → Refused answer 21 None
  pub told : (M : Kripke) (r : ℕ) → Analysed M r a → TogetherTells M r s t answer

pub record ReducedAnswer (a : Analysis) (x y : Reduced) (answer : Result (Unit {0}) Refusal) : Type 0 where
  pub shut : a.opened ≡ false → Refused answer 21 None
  pub told : (M : Kripke) (r : ℕ) → Analysed M r a → ReducedTells M r x y answer
  pub refused : IfErr answer (λ _. y ≡ x)
