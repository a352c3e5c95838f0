-- What a list of calls answers and leaves, once the model is opened.
use Rattle.std.specs.Prelude.{◌≡◌, ℕ, ◌+◌, ◌<◌, ◌≤◌, min, Bool, ◌↔◌, List, [], ◌∷◌, length, take, None, Ok, Err, Result, MatchResult, ◌≢◌, slice_index_or}
use Rattle.kripke.specs.Models.{Kripke}
use Rattle.kripke.specs.Formulas.{Agree}
use Rattle.kripke.specs.Relation.{Settles}
use Rattle.merger.specs.declared.analysis.Analysis.{Analysis}
use Rattle.components.specs.declared.marks.Walk.{Walk}
use Rattle.merger.specs.declared.answers.Opened.{Opened}
use Rattle.merger.specs.declared.answers.OpenRefusal.{OpenRefusal}
use Rattle.merger.specs.declared.answers.Refusal.{Refusal}
use Rattle.merger.specs.declared.answers.Made.{Made}
use Rattle.merger.specs.declared.answers.Ran.{Ran}
use Rattle.merger.specs.declared.lists.Call.{Call}
use Rattle.merger.specs.declared.lists.Call.TheVariants.{Round, Run, Class, Together, Reduced}
use Rattle.merger.specs.declared.lists.Answer.{Answer}
use Rattle.merger.specs.declared.lists.Answer.TheVariants.{Made as WasMade, Ran as HasRun, Class as InClass, Together as AreTogether, Filled}
use Rattle.merger.specs.declared.reduced.Reduced.{Reduced as ReducedModel}
use Rattle.merger.specs.Promise.{Told}
use Rattle.merger.specs.Reducing.{meaning, Fills}
use Rattle.merger.specs.Refusals.{Refused}
use Rattle.merger.specs.Tells.{OpenTells, OpenRefuses, RoundTells, RunTells, ClassTells, TogetherTells}
use Rattle.merger.specs.Calls.{Analysed, Promises, Continues}

-- how many rounds a call asks for, and a list of calls
abbrev pub asks : Call → ℕ
asks Round = 1
asks (Run budget) = budget
asks (Class s) = 0
asks (Together s t) = 0
asks Reduced = 0

abbrev pub asked : List Call → ℕ
asked [] = 0
asked (call ∷ calls) = asks call + asked calls

-- what a call answers, or its refusal
abbrev pub Answered : Type 0
Answered = Result Answer Refusal

-- what a call of its own answers, as the answer to a call of a list
abbrev pub answer_of : {T : Type 0} → (T → Answer) → Result T Refusal → Answered
answer_of form (Ok x) = Ok (form x)
answer_of form (Err e) = Err e

-- the answer to a call that is made after r rounds
abbrev pub CallTells : Kripke → ℕ → Call → Answered → Type 0
CallTells M r Round answer = (w : Result Made Refusal) × (answer ≡ answer_of WasMade w) × RoundTells M r w
CallTells M r (Run budget) answer = (w : Result Ran Refusal) × (answer ≡ answer_of HasRun w) × RunTells M r budget w
CallTells M r (Class s) answer = (w : Result ℕ Refusal) × (answer ≡ answer_of InClass w) × ClassTells M r s w
CallTells M r (Together s t) answer = (w : Result Bool Refusal) × (answer ≡ answer_of AreTogether w) × TogetherTells M r s t w
CallTells M r Reduced answer =
    (Settles M r → answer ≡ Ok Filled) × ((Settles M r → ⊥) → Refused answer 24 None)

-- one call: b is a after it, and the model y that was given as x is filled just where the call is to fill it, and the analysis settled
pub record CallAnswer (a b : Analysis) (x y : ReducedModel) (call : Call) (answer : Answered) : Type 0 where
  pub continues : Continues (asks call) a b
  pub told : (M : Kripke) (r : ℕ) → Analysed M r a → CallTells M r call answer
  pub fills : (M : Kripke) (r : ℕ) → Analysed M r a → call ≡ Reduced → Settles M r → Fills M r (meaning y)
  pub keeps : (M : Kripke) (r : ℕ) → Analysed M r a → (call ≡ Reduced → Settles M r → ⊥) → y ≡ x

-- call i of a list
abbrev pub call_at : List Call → ℕ → Call
call_at calls i = slice_index_or calls i Round

-- the rounds that are made before call i, where round z settles
abbrev pub rounds_before : List Call → ℕ → ℕ → ℕ
rounds_before calls z i = min (asked (take i calls)) z

-- the settling round z is made before call i
abbrev pub SettledBefore : List Call → ℕ → ℕ → Type 0
SettledBefore calls z i = z ≤ asked (take i calls)

-- call i asks for the reduced model, and the settling round is made before
pub record Due (calls : List Call) (z i : ℕ) : Type 0 where
  pub within : i < length calls
  pub call : call_at calls i ≡ Reduced
  pub settled : SettledBefore calls z i

-- call i asks for the class of state s, and is answered c
pub record Classed (M : Kripke) (calls : List Call) (answers : List Answered) (i s c : ℕ) : Type 0 where
  pub within : i < length calls
  pub call : call_at calls i ≡ Class s
  pub state : s < M.frame.size
  pub room : i < length answers
  pub answer : (d : Answered) → slice_index_or answers i d ≡ Ok (InClass c)

-- all calls on the analysis of M, from the first: answers has room for some answers, x is the model to fill
pub record Performed (M : Kripke) (calls : List Call) (answers answers' : List Answered) (b : Analysis) (x y : ReducedModel) : Type 0 where
  pub last : ℕ
  pub settles : Settles M last
  -- after the calls the analysis stands for M, after as many rounds as were asked for, and no more than settle it, and keeps the promise
  pub stands : Analysed M (rounds_before calls last (length calls)) b
  pub promises : Promises M (rounds_before calls last (length calls)) b
  -- each call is answered as after the rounds made before it
  pub answered : (i : ℕ) (d : Answered) → i < length calls → i < length answers → CallTells M (rounds_before calls last i) (call_at calls i) (slice_index_or answers' i d)
  pub others : (i : ℕ) (d : Answered) → length calls ≤ i → slice_index_or answers' i d ≡ slice_index_or answers i d
  pub room : length answers' ≡ length answers
  -- (a) once settled, classes are the same exactly where no formula tells the states apart
  pub exact : (i j s t c e : ℕ) → Classed M calls answers' i s c → Classed M calls answers' j t e →
      SettledBefore calls last i → SettledBefore calls last j → (c ≡ e) ↔ Agree M s M t
  -- (b) after the same rounds different classes are told apart by a formula nested no deeper than those
  pub told : (i j s t c e : ℕ) → Classed M calls answers' i s c → Classed M calls answers' j t e →
      rounds_before calls last i ≡ rounds_before calls last j → (c ≢ e) → Told M (rounds_before calls last i) s t
  -- (c) the model that is filled, if it is due, can stand for M, and no smaller one can; it is left alone otherwise
  pub filled : (i : ℕ) → Due calls last i → Fills M last (meaning y)
  pub left : ((i : ℕ) → Due calls last i → ⊥) → y ≡ x

-- a model and a list of calls: the model is refused as open refuses it, and all is left as it was; or all calls are made
abbrev pub PerformAnswer : Kripke → (a b : Analysis) (walks walks' : List Walk) (states states' : List ℕ) (calls : List Call) (answers answers' : List Answered) →
    (x y : ReducedModel) → Result Opened OpenRefusal → Type 0
PerformAnswer M a b walks walks' states states' calls answers answers' x y result = MatchResult result
    (λ opened. OpenTells M (length walks) (length states) opened × Performed M calls answers answers' b x y)
    (λ e. OpenRefuses M (length walks) (length states) e × (b ≡ a) × (walks' ≡ walks) × (states' ≡ states) × (answers' ≡ answers) × (y ≡ x))
