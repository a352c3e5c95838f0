-- What an outcome tells of each fault, and of what was written.
use Rattle.std.specs.Prelude.{ℕ, Result, Ok, Err}
use Rattle.checker.specs.Refusals.{cause, place, move_number}
use Rattle.checker.specs.declared.steps.Refused.{Refused}
use Rattle.merger.specs.Refusals.{refusal_number}
use Rattle.merger.specs.declared.answers.Refusal.TheVariants.{ShortBuffer}
use Rattle.modelfile.specs.declared.faults.FaultNumbers.{FaultNumbers}
use Rattle.writing.specs.Writings.{write_cause}
use Rattle.exchange.specs.Takes.{take_told}
use Rattle.exported.specs.declared.outcomes.Outcome.{Outcome}
use Rattle.exported.specs.declared.outcomes.MergeFault.{MergeFault}
use Rattle.exported.specs.declared.outcomes.MergeFault.TheVariants.{NotTaken, NoRoom}
use Rattle.exported.specs.declared.outcomes.ReduceFault.{ReduceFault}
use Rattle.exported.specs.declared.outcomes.ReduceFault.TheVariants.{NotTaken as NotTakenHere, NotSaved}

-- so much is written, and nothing is refused
abbrev pub accepted : ℕ → Outcome
accepted len = record { layer = 0; cause = 0; number = 0; place = 0; length = len }

-- refused for a cause of no layer
abbrev pub refused : ℕ → Outcome
refused n = record { layer = 0; cause = n; number = 0; place = 0; length = 0 }

abbrev pub fault_told : FaultNumbers → Outcome
fault_told f = record { layer = f.layer; cause = f.cause; number = f.number; place = f.place; length = 0 }

abbrev pub merge_told : MergeFault → Outcome
merge_told (NotTaken fault) = fault_told (take_told fault)
merge_told NoRoom = refused (refusal_number ShortBuffer)

abbrev pub reduce_told : ReduceFault → Outcome
reduce_told (NotTakenHere fault) = fault_told (take_told fault)
reduce_told (NotSaved fault) = refused (write_cause fault)

abbrev pub check_told : Refused → Outcome
check_told fault = record { layer = 0; cause = cause fault; number = move_number fault; place = place fault; length = 0 }

-- the outcome of a call, by what it tells of its faults
abbrev pub outcome : {E : Type 0} → (E → Outcome) → Result ℕ E → Outcome
outcome told (Ok len) = accepted len
outcome told (Err fault) = told fault
