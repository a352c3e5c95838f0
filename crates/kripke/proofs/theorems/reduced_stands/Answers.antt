use Rattle.kripke.proofs.theorems.reduced_stands.Goals as goal
use Rattle.kripke.proofs.Claims.{agrees_reduced, smallest_reduced, there_reduced, once_reduced}

pub returns : goal.returns
returns c = record { agrees = agrees_reduced; smallest = smallest_reduced; there = there_reduced; once = once_reduced }
