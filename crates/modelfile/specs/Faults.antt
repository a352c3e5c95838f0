-- What each fault tells: its layer, its cause, its place and the number of the move; and the line that says so.
use Rattle.std.specs.Prelude.{◌≡◌, ℕ, ◌<◌, ◌≤◌, List, [], ◌∷◌, length, codes, Result, MatchResult}
use Rattle.codec.specs.Pieces.{placed}
use Rattle.codec.specs.Texts.{line}
use Rattle.codec.specs.declared.numbers.NumberFault.{NumberFault}
use Rattle.codec.specs.declared.numbers.NumberFault.TheVariants.{CutShortAt, NotFewestAt}
use Rattle.survey.specs.declared.gaps.Numbers.{Numbers}
use Rattle.modelfile.specs.declared.faults.FaultNumbers.{FaultNumbers}
use Rattle.modelfile.specs.declared.faults.FileFault.{FileFault}
use Rattle.modelfile.specs.declared.faults.FileFault.TheVariants.{InNumber, OutOfRange, NotRising, TableShort, LeftOver, TooLong}
use Rattle.modelfile.specs.declared.faults.TextFault.{TextFault}
use Rattle.modelfile.specs.declared.faults.TextFault.TheVariants.{BufferShort}

-- layer 1: a number
abbrev pub number_told : NumberFault → FaultNumbers
number_told (CutShortAt place) = record { layer = 1; cause = 1; place = place; number = 0 }
number_told (NotFewestAt place) = record { layer = 1; cause = 2; place = place; number = 0 }

-- layer 2: a file
abbrev pub file_told : FileFault → FaultNumbers
file_told (InNumber fault) = number_told fault
file_told (OutOfRange place) = record { layer = 2; cause = 3; place = place; number = 0 }
file_told (NotRising place) = record { layer = 2; cause = 4; place = place; number = 0 }
file_told (TableShort place) = record { layer = 2; cause = 5; place = place; number = 0 }
file_told (LeftOver place) = record { layer = 2; cause = 6; place = place; number = 0 }
file_told TooLong = record { layer = 2; cause = 7; place = 32767; number = 0 }

-- layer 3: what a model lacks
abbrev pub gap_told : Numbers ℕ → FaultNumbers
gap_told n = record { layer = 3; cause = n.cause; place = n.place; number = n.number }

-- the refusal to write a text
abbrev pub text_cause : TextFault → ℕ
text_cause BufferShort = 25

-- the word fault, the four numbers with a space before each, and a line feed
abbrev pub fault_line : FaultNumbers → List ℕ
fault_line f = line (codes "fault") (f.layer ∷ f.cause ∷ f.place ∷ f.number ∷ [])

-- the line stands at the buffer's front, and the answer is its length; or it has no room, and nothing is altered
abbrev pub TellsFault : FaultNumbers → List ℕ → List ℕ → Result ℕ TextFault → Type 0
TellsFault f before after answer =
    MatchResult answer
    (λ end. (end ≡ length (fault_line f)) × (end ≤ length before) × (after ≡ placed before 0 (fault_line f)))
    (λ e. (length before < length (fault_line f)) × (after ≡ before) × (text_cause e ≡ 25))
