-- When a check is made, what it then does, and why it is not made.
use Rattle.std.specs.Prelude.{ℕ, ◌<◌, ◌≤◌, List, length}
use Rattle.kripke.specs.Models.{Kripke}
use Rattle.kripke.specs.Formulas.{Formula}
use Rattle.survey.specs.Gaps.{Gaps, Admitted, gap_cause, gap_place, gap_move}
use Rattle.checker.specs.declared.steps.Step.{Step}
use Rattle.checker.specs.declared.steps.Refused.{Refused}
use Rattle.checker.specs.declared.steps.Refused.TheVariants.{Model, Steps, ShortMarks}
use Rattle.checker.specs.Steps.{Denotes}
use Rattle.checker.specs.Reading.{Malforms, Readable, malformed_cause, malformed_place}
use Rattle.checker.specs.Marks.{Marked}

-- the number of each cause
abbrev pub cause : Refused → ℕ
cause (Model gap) = gap_cause gap
cause (Steps fault) = malformed_cause fault
cause ShortMarks = 35

-- the state or the step that is refused, or 0 if it is neither
abbrev pub place : Refused → ℕ
place (Model gap) = gap_place gap
place (Steps fault) = malformed_place fault
place ShortMarks = 0

-- the number in its row of the move that is refused, or 0 if it is none
abbrev pub move_number : Refused → ℕ
move_number (Model gap) = gap_move gap
move_number (Steps fault) = 0
move_number ShortMarks = 0

-- why a check of a model by steps with so many marks is not made: this, and nothing that is looked for earlier
abbrev pub Refuses : Kripke → List Step → ℕ → Refused → Type 0
Refuses M steps marks (Model gap) = Gaps M.frame gap
Refuses M steps marks (Steps fault) = Admitted M.frame × Malforms M.labels.count steps fault
Refuses M steps marks ShortMarks = Admitted M.frame × Readable M.labels.count steps × (marks < M.frame.size)

abbrev pub Accepts : Kripke → List Step → ℕ → Type 0
Accepts M steps marks = Admitted M.frame × Readable M.labels.count steps × (M.frame.size ≤ marks)

-- what an accepted check does: the steps denote a formula, and the states where it holds are marked
pub record Checked (M : Kripke) (steps : List Step) (old new : List ℕ) : Type 0 where
  pub accepts : Accepts M steps (length old)
  pub formula : Formula
  pub denoted : Denotes steps formula
  pub marked : Marked M formula old new
