use Rattle.kripke.proofs.theorems.parted_by_formula.Goals as goal
use Rattle.kripke.proofs.Claims.{class_formula, parted_by_formula_lem}

pub returns : goal.returns
returns c = record { class = class_formula; parted = parted_by_formula_lem }
