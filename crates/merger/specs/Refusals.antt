-- The numbers of the refusals.
use Rattle.std.specs.Prelude.{◌≡◌, ℕ, Some, None, Ok, Err, Option, Result}
use Rattle.survey.specs.Gaps.{gap_cause, gap_place, gap_move}
use Rattle.merger.specs.declared.answers.OpenRefusal.{OpenRefusal}
use Rattle.merger.specs.declared.answers.OpenRefusal.TheVariants.{Lacks, ShortScratch}
use Rattle.merger.specs.declared.answers.Refusal.{Refusal}
use Rattle.merger.specs.declared.answers.Refusal.TheVariants.{NothingOpened, Settled, NoState, NotSettled, ShortBuffer}

abbrev pub refusal_number : Refusal → ℕ
refusal_number NothingOpened = 21
refusal_number Settled = 22
refusal_number (NoState s) = 23
refusal_number NotSettled = 24
refusal_number ShortBuffer = 25

-- the state that a refusal names
abbrev pub refusal_state : Refusal → Option ℕ
refusal_state NothingOpened = None
refusal_state Settled = None
refusal_state (NoState s) = Some s
refusal_state NotSettled = None
refusal_state ShortBuffer = None

-- the answer is the refusal with this number, and names this state
abbrev pub Refused : {T : Type 0} → Result T Refusal → ℕ → Option ℕ → Type 0
Refused (Ok x) n s = ⊥
Refused (Err e) n s = (refusal_number e ≡ n) × (refusal_state e ≡ s)

-- the cause of an open's refusal, the state that it is about and the number of the move
abbrev pub open_cause : OpenRefusal → ℕ
open_cause (Lacks gap) = gap_cause gap
open_cause ShortScratch = 13

abbrev pub open_place : OpenRefusal → ℕ
open_place (Lacks gap) = gap_place gap
open_place ShortScratch = 0

abbrev pub open_move : OpenRefusal → ℕ
open_move (Lacks gap) = gap_move gap
open_move ShortScratch = 0
