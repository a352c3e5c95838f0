-- What stands at a place of some bytes: a number in its fewest bytes, or what is wrong there.
use Rattle.std.specs.Prelude.{◌≡◌, ℕ, ◌^◌, ◌<◌, ◌≤◌, List, [], ◌∷◌, ◌++◌, length, take, drop, Some, Ok, Result, MatchResult}
use Rattle.codec.specs.Numbers.{code}
use Rattle.codec.specs.Pieces.{Writes}
use Rattle.codec.specs.declared.numbers.Flaw.{Flaw}
use Rattle.codec.specs.declared.numbers.Flaw.TheVariants.{CutShort, NotFewest}
use Rattle.codec.specs.declared.numbers.NumberFault.{NumberFault}
use Rattle.codec.specs.declared.numbers.NumberFault.TheVariants.{CutShortAt, NotFewestAt}

-- no byte is below 80, so no number ends here
abbrev pub Endless : List ℕ → Type 0
Endless [] = Unit {0}
Endless (b ∷ bs) = (128 ≤ b) × Endless bs

-- the bytes begin with the number n, in its fewest bytes, and the rest follows it
abbrev pub Begins : List ℕ → ℕ → List ℕ → Type 0
Begins bs n rest = bs ≡ code n ++ rest

-- why no number below 2^64 can be taken from the front: the bytes end too soon, or they are not its fewest
abbrev pub Refused : Flaw → List ℕ → Type 0
Refused CutShort bs = Endless bs
Refused NotFewest bs = (Endless bs → ⊥) × ((n : ℕ) (rest : List ℕ) → n < 2 ^ 64 → Begins bs n rest → ⊥)

-- the number n stands from one place up to the next
pub record Stands (file : List ℕ) (from n next : ℕ) : Type 0 where
  pub inside : next ≤ length file
  pub on : from < next
  pub small : n < 2 ^ 64
  pub text : take next file ≡ take from file ++ code n

-- why none stands there: one that is cut short is told at the length, any other at its first byte
abbrev pub Wrong : List ℕ → ℕ → NumberFault → Type 0
Wrong file from (CutShortAt place) = (place ≡ length file) × Refused CutShort (drop from file)
Wrong file from (NotFewestAt place) = (place ≡ from) × Refused NotFewest (drop from file)

-- the fault of a flawed number that begins at one place, where the bytes end at another
abbrev pub located : Flaw → ℕ → ℕ → NumberFault
located CutShort from until = CutShortAt until
located NotFewest from until = NotFewestAt from

-- what a reader answers at a place: the number and where the next begins, or what is wrong
abbrev pub Reads : List ℕ → ℕ → Result (ℕ × ℕ) NumberFault → Type 0
Reads file from answer = MatchResult answer (λ p. Stands file from p.0 p.1) (Wrong file from)

-- a reader has one answer
abbrev pub OneReading : Type 0
OneReading = (file : List ℕ) (from : ℕ) (r q : Result (ℕ × ℕ) NumberFault) → Reads file from r → Reads file from q → r ≡ q

-- what is written reads back as the same number
abbrev pub WrittenReadsBack : Type 0
WrittenReadsBack = (before after : List ℕ) (at n end : ℕ) → n < 2 ^ 64 → Writes (code n) before at after (Some end) → Reads after at (Ok (n, end))

-- an accepted number is written as its own bytes: written where it stands, it alters nothing
abbrev pub ReadRewrites : Type 0
ReadRewrites = (file : List ℕ) (at n next : ℕ) → Reads file at (Ok (n, next)) → Writes (code n) file at file (Some next)
