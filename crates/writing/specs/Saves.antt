-- What save answers and leaves: the file of a whole model.
use Rattle.std.specs.Prelude.{◌≡◌, ℕ, ◌<◌, ◌≤◌, min, List, map, length, take, Result, MatchResult, slice_index_or}
use Rattle.std.specs.List.{range_with_len, AllByRecursion}
use Rattle.kripke.specs.Models.{Kripke, words_at}
use Rattle.kripke.specs.Words.{SameWords}
use Rattle.models.specs.Facts.{fact_words}
use Rattle.models.specs.declared.facts.Facts.{Facts}
use Rattle.codec.specs.Pieces.{placed}
use Rattle.modelfile.specs.Files.{file_of, longest, Sized, RisingRow, Wide}
use Rattle.writing.specs.Writings.{Filed}
use Rattle.writing.specs.declared.protocol.WriteFault.{WriteFault}
use Rattle.writing.specs.declared.protocol.WriteFault.TheVariants.{BadSize, NoSpace, AllGiven, Missing, BadRow}

-- the rows of a model, one for each state
abbrev pub rows_of : Kripke → List (List ℕ)
rows_of M = map M.frame.row (range_with_len 0 M.frame.size)

-- the labels of the first states: each has just the words that hold there
pub record Labelled (M : Kripke) (count : ℕ) (labels : List Facts) : Type 0 where
  pub many : length labels ≡ count
  pub wide : AllByRecursion Wide labels
  pub says : (s : ℕ) → s < count → SameWords (fact_words (slice_index_or labels s (record { bits = 0 }))) (words_at M s)

-- those of all states
abbrev pub Labels : Kripke → List Facts → Type 0
Labels M labels = Labelled M M.frame.size labels

-- the bytes that a file may fill
abbrev pub space_of : List ℕ → ℕ
space_of buffer = min (length buffer) longest

-- a space of so many bytes is too short for all labels and the first rows, and these rows rise
pub record TooShort (M : Kripke) (space : ℕ) : Type 0 where
  pub sized : Sized M.frame.size
  pub labels : List Facts
  pub are : Labels M labels
  pub upto : ℕ
  pub rising : AllByRecursion (RisingRow M.frame.size) (take upto (rows_of M))
  pub over : space < length (file_of labels (take upto (rows_of M)))

-- there is space for all labels and the first rows, these rows rise, and the next does not
pub record RowBad (M : Kripke) (space : ℕ) : Type 0 where
  pub sized : Sized M.frame.size
  pub labels : List Facts
  pub are : Labels M labels
  pub upto : ℕ
  pub state : upto < M.frame.size
  pub rising : AllByRecursion (RisingRow M.frame.size) (take upto (rows_of M))
  pub fits : length (file_of labels (take upto (rows_of M))) ≤ space
  pub falls : RisingRow M.frame.size (M.frame.row upto) → ⊥

-- why a model is not written, as a writing would refuse it first
abbrev pub SaveFault : Kripke → ℕ → WriteFault → Type 0
SaveFault M space BadSize = Sized M.frame.size → ⊥
SaveFault M space NoSpace = TooShort M space
SaveFault M space AllGiven = ⊥
SaveFault M space Missing = ⊥
SaveFault M space BadRow = RowBad M space

-- the file of the model stands at the front, the rest is left, and the answer is the file's length
pub record Saved (M : Kripke) (before after : List ℕ) (len : ℕ) : Type 0 where
  pub labels : List Facts
  pub are : Labels M labels
  pub filed : Filed after len labels (rows_of M)
  pub fits : len ≤ space_of before
  pub text : after ≡ placed before 0 (file_of labels (rows_of M))

-- it is written; or it is refused, and nothing is altered
abbrev pub Saves : Kripke → List ℕ → List ℕ → Result ℕ WriteFault → Type 0
Saves M before after answer = MatchResult answer (Saved M before after) (λ e. SaveFault M (space_of before) e × (after ≡ before))

-- what the first look learns: the file of the model takes len bytes, and these fit
pub record Measured (M : Kripke) (space len : ℕ) : Type 0 where
  pub sized : Sized M.frame.size
  pub labels : List Facts
  pub are : Labels M labels
  pub rising : AllByRecursion (RisingRow M.frame.size) (rows_of M)
  pub long : len ≡ length (file_of labels (rows_of M))
  pub fits : len ≤ space
