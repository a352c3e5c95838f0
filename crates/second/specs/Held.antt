-- What a set of states holds.
use Rattle.std.specs.Prelude.{List, Bool}
use Rattle.second.specs.declared.oracle.States.{States}

-- of each state of the model in turn, whether the set has it
abbrev pub held : States → List Bool
held set = set.has.items
