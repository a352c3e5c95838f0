use Rattle.checker.proofs.Formed.{one_formula, readable_formulas}
use Rattle.checker.proofs.steps_denote.Goals as goal

pub returns : goal.returns
returns c = record { one = one_formula; readable = readable_formulas }
