-- Words as numbers of 64 bits: they are the same where the numbers are.
use Rattle.std.proofs.Common.{◌≡◌, ℕ, ◌^◌, ◌<◌, ◌↔◌, ap}
use Rattle.std.proofs.lemmas.Bool.{lt-ltb}
use Rattle.kripke.specs.Words.{SameWords}
use Rattle.models.proofs.Bits.{same_from_bits}
use Rattle.merger.specs.Tables.{words_of}

pub same_words : (x y : ℕ) → x < 2 ^ 64 → y < 2 ^ 64 → (x ≡ y) ↔ SameWords (words_of x) (words_of y)
same_words x y fx fy = (
  (λ e a. ap (λ n. words_of n a) e),
  (λ h. same_from_bits 64 x y fx fy (λ a l. rw (lt-ltb a 64 l) at (h a))),
)
