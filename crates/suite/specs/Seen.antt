-- The two words of a label that looks at a sun: they are words 0 and 3 of that sun.
use Rattle.std.specs.Prelude.{Bool, false, List, [], ◌∷◌, slice_index_or}
use Rattle.std.proofs.Common.{arith}
use Rattle.std.proofs.lemmas.List.{get_or_past}
use Rattle.kripke.specs.Words.{Words, Lawful}
use Rattle.models.specs.Sun.{sun_words}
use Rattle.suite.specs.declared.seen.Seen.{Seen}

abbrev pub seen_table : Seen → List Bool
seen_table x = sun_words x.sun.now 0 ∷ sun_words x.sun.now 3 ∷ []

abbrev pub seen_words : Seen → Words
seen_words x a = slice_index_or (seen_table x) a false

pub seen_lawful : Lawful 2 seen_words
seen_lawful = record {
  few = omega arith;
  within = λ x a past. get_or_past (seen_table x) a false past;
}
