-- What a fault line tells of a model that is not worked on.
use Rattle.modelfile.specs.declared.faults.FaultNumbers.{FaultNumbers}
use Rattle.survey.specs.Gaps.{gap_cause, gap_place, gap_move}
use Rattle.survey.specs.declared.gaps.Gap.{Gap}

-- layer 3: a model
abbrev pub gap_told : Gap → FaultNumbers
gap_told gap = record { layer = 3; cause = gap_cause gap; place = gap_place gap; number = gap_move gap }
