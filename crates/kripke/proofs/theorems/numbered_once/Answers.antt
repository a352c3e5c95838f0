use Rattle.kripke.proofs.theorems.numbered_once.Goals as goal
use Rattle.kripke.proofs.Claims.{numbers_once, classes_once, components_once, classes_there, components_there}

pub returns : goal.returns
returns c =
    record { once = numbers_once; classes = classes_once; components = components_once; classed = classes_there; joined = components_there }
