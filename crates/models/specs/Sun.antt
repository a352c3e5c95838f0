-- The six words of a sun label.
use Rattle.std.specs.Prelude.{Bool, false, List, [], ◌∷◌, negsuc, int_le, slice_index_or}
use Rattle.std.proofs.Common.{arith}
use Rattle.std.proofs.lemmas.List.{get_or_past}
use Rattle.kripke.specs.Words.{Words, Lawful}
use Rattle.models.specs.declared.sun.Sun.{Sun}

-- each word in turn: at or below −50, −360, −720 and −1,080 arcminutes, shutter open, guide star held
abbrev pub sun_table : Sun → List Bool
sun_table x =
    int_le x.altitude (negsuc 49) ∷
    int_le x.altitude (negsuc 359) ∷
    int_le x.altitude (negsuc 719) ∷
    int_le x.altitude (negsuc 1079) ∷
    x.shutter ∷
    x.guide ∷
    []

abbrev pub sun_words : Sun → Words
sun_words x a = slice_index_or (sun_table x) a false

pub sun_lawful : Lawful 6 sun_words
sun_lawful = record {
  few = omega arith;
  within = λ x a past. get_or_past (sun_table x) a false past;
}
