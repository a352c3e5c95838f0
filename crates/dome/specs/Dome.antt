-- The two words of a dome's label.
use Rattle.std.specs.Prelude.{false, [], ◌∷◌, slice_index_or}
use Rattle.std.proofs.Common.{arith}
use Rattle.std.proofs.lemmas.List.{get_or_past}
use Rattle.kripke.specs.Words.{Words, Lawful}
use Rattle.dome.specs.declared.Dome.{Dome}

abbrev pub dome_words : Dome → Words
dome_words x a = slice_index_or (x.open ∷ x.turning ∷ []) a false

pub dome_lawful : Lawful 2 dome_words
dome_lawful = record {
  few = omega arith;
  within = λ x a past. get_or_past (x.open ∷ x.turning ∷ []) a false past;
}
