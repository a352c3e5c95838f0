-- When a model can be worked on, and what it lacks if not. Only its moves decide, so all is said of frames.
use Rattle.std.specs.Prelude.{◌≡◌, ℕ, ◌<◌, ◌≤◌, ◌↔◌, List, length, ◌≢◌, slice_index_or}
use Rattle.kripke.specs.Models.{Frame, Total, TotalRow, nowhere}
use Rattle.kripke.specs.Paths.{Move}
use Rattle.sets.specs.declared.Set.{Set}
use Rattle.sets.specs.Sets.{In, none}
use Rattle.survey.specs.declared.gaps.Gap.{Gap}
use Rattle.survey.specs.declared.gaps.Gap.TheVariants.{NoStates, TooMany, EmptyRow, Nowhere}

-- the number of each cause
abbrev pub gap_cause : Gap → ℕ
gap_cause NoStates = 11
gap_cause TooMany = 12
gap_cause (EmptyRow s) = 15
gap_cause (Nowhere s k) = 14

-- where the gap is: the state, or 0 if it is in none
abbrev pub gap_place : Gap → ℕ
gap_place NoStates = 0
gap_place TooMany = 0
gap_place (EmptyRow s) = s
gap_place (Nowhere s k) = s

-- the number of the move in its row, or 0 if it is in none
abbrev pub gap_move : Gap → ℕ
gap_move NoStates = 0
gap_move TooMany = 0
gap_move (EmptyRow s) = 0
gap_move (Nowhere s k) = k

-- there are states, and not too many
abbrev pub Sized : Frame → Type 0
Sized F = (0 < F.size) × (F.size ≤ 128)

-- the rows of the states below s have a move, and none that goes nowhere
abbrev pub TotalBelow : Frame → ℕ → Type 0
TotalBelow F s = (j : ℕ) → j < s → TotalRow F.size (F.row j)

-- move k of a row is the first that goes nowhere
abbrev pub FirstNowhere : List ℕ → ℕ → Type 0
FirstNowhere row k = (k < length row) × (slice_index_or row k nowhere ≡ nowhere) × ((j : ℕ) → j < k → slice_index_or row j nowhere ≢ nowhere)

-- the frame has this gap, and none that is looked for earlier
abbrev pub Gaps : Frame → Gap → Type 0
Gaps F NoStates = F.size ≡ 0
Gaps F TooMany = 128 < F.size
Gaps F (EmptyRow s) = Sized F × (s < F.size) × TotalBelow F s × (length (F.row s) ≡ 0)
Gaps F (Nowhere s k) = Sized F × (s < F.size) × TotalBelow F s × FirstNowhere (F.row s) k

-- what a frame is like that can be worked on
abbrev pub Admitted : Frame → Type 0
Admitted F = Sized F × Total F

-- x is the set of the states that s moves to
abbrev pub RowIs : Frame → ℕ → Set → Type 0
RowIs F s x = (t : ℕ) → In x t ↔ Move F s t

-- row s of the table has just the states that s moves to; from the frame's size on, the rows have none
pub record Linked (F : Frame) (rows : List Set) : Type 0 where
  pub states : (s : ℕ) → s < F.size → RowIs F s (slice_index_or rows s none)
  pub others : (s : ℕ) → F.size ≤ s → slice_index_or rows s none ≡ none

-- a frame has one gap at most, and none if it is admitted
pub record OneGap : Type 0 where
  pub one : (F : Frame) (a b : Gap) → Gaps F a → Gaps F b → a ≡ b
  pub none : (F : Frame) (a : Gap) → Gaps F a → Admitted F → ⊥
