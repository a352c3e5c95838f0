-- The words of a number of 64 bits: word a is bit a, and bit 0 is the lowest.
use Rattle.std.specs.Prelude.{◌&&◌, nat_lt}
use Rattle.std.proofs.Common.{ap, arith}
use Rattle.std.proofs.lemmas.Bool.{le-ltb}
use Rattle.kripke.specs.Words.{Words, Lawful, bit}
use Rattle.models.specs.declared.facts.Facts.{Facts}

abbrev pub fact_words : Facts → Words
fact_words f a = nat_lt a 64 && bit f.bits a

pub facts_lawful : Lawful 64 fact_words
facts_lawful = record {
  few = omega arith;
  within = λ f a past. ap (λ b. b && bit f.bits a) (le-ltb a 64 past);
}
