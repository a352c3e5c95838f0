use Rattle.std.proofs.Common.{w64, arith}
use Rattle.std.proofs.lemmas.Bool.Decides.{nat_tests}
use Rattle.std.proofs.lemmas.Nat.Bits.{bit_at_set_same, bit_at_set_other}
use Rattle.models.proofs.facts.Facts.with.Goals as goal

pub returns : goal.returns
returns c k = grind (arith, nat_tests, bit_at_set_same w64, bit_at_set_other w64)
