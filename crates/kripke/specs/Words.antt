-- A set of words, by the test whether a word is in it, and when two such sets are the same.
use Rattle.std.specs.Prelude.{◌≡◌, ℕ, ◌/◌, ◌%◌, ◌^◌, ◌≤◌, Bool, false, Decides, ◌==◌}

-- whether word a holds, for each a
abbrev pub Words : Type 0
Words = ℕ → Bool

-- every word holds by both or by neither
abbrev pub SameWords : Words → Words → Type 0
SameWords v w = (a : ℕ) → v a ≡ w a

-- no word at or above the count holds
abbrev pub Within : ℕ → Words → Type 0
Within count w = (a : ℕ) → count ≤ a → w a ≡ false

-- what each label kind shows: at most 64 words, and none at or above the count holds of a label
pub record Lawful {L : Type 0} (count : ℕ) (means : L → Words) : Type 0 where
  pub few : count ≤ 64
  pub within : (x : L) → Within count (means x)

-- what the answer r says of two sets of words: yes exactly when they are the same
abbrev pub TellsSame : Bool → Words → Words → Type 0
TellsSame r v w = Decides r (SameWords v w)

-- bit a of a number, bit 0 the lowest
abbrev pub bit : ℕ → Words
bit n a = n / 2 ^ a % 2 == 1

-- the number has the words for its bits
abbrev pub Packs : ℕ → Words → Type 0
Packs n w = SameWords (bit n) w
