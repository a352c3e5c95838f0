-- What the parts of save answer.
use Rattle.std.specs.Prelude.{◌≡◌, ℕ, ◌+◌, ◌<◌, ◌≤◌, List, [], length, take, Result, MatchResult}
use Rattle.std.specs.List.{flat_map, AllByRecursion}
use Rattle.kripke.specs.Models.{Kripke}
use Rattle.models.specs.declared.facts.Facts.{Facts}
use Rattle.codec.specs.Numbers.{codes, counted}
use Rattle.codec.specs.Pieces.{placed}
use Rattle.modelfile.specs.Files.{bits_of, RisingRow}
use Rattle.writing.specs.Saves.{rows_of, Labelled, Labels, space_of}
use Rattle.writing.specs.Writings.{SetsHold, RowsHold}
use Rattle.writing.specs.declared.protocol.Rows.{Rows}
use Rattle.writing.specs.declared.protocol.Sets.{Sets}
use Rattle.writing.specs.declared.protocol.WriteFault.{WriteFault}
use Rattle.writing.specs.declared.protocol.WriteFault.TheVariants.{BadSize, NoSpace, AllGiven, Missing, BadRow}

-- why a row is refused: it does not rise, or it takes more bytes than are left
abbrev pub RowRefused : List ℕ → ℕ → ℕ → WriteFault → Type 0
RowRefused row states left BadSize = ⊥
RowRefused row states left NoSpace = RisingRow states row × (left < length (codes (counted row)))
RowRefused row states left AllGiven = ⊥
RowRefused row states left Missing = ⊥
RowRefused row states left BadRow = RisingRow states row → ⊥

abbrev pub MeasuredRow : List ℕ → ℕ → ℕ → Result ℕ WriteFault → Type 0
MeasuredRow row states left answer =
    MatchResult answer
    (λ wide. RisingRow states row × (wide ≡ length (codes (counted row))) × (wide ≤ left))
    (RowRefused row states left)

-- behind what is written the space holds all labels
pub record SetsFit (M : Kripke) (buffer : List ℕ) (w : Sets) : Type 0 where
  pub labels : List Facts
  pub are : Labels M labels
  pub states : w.sets.states ≡ M.frame.size
  pub none : w.sets.given ≡ 0
  pub fits : w.sets.len + length (codes (bits_of labels)) ≤ space_of buffer

-- the labels of the first states are given behind what was written
pub record SetsGiven (M : Kripke) (before after : List ℕ) (was : Sets) (count : ℕ) (w : Sets) : Type 0 where
  pub labels : List Facts
  pub are : Labelled M count labels
  pub states : w.sets.states ≡ M.frame.size
  pub given : w.sets.given ≡ count
  pub text : after ≡ placed before was.sets.len (codes (bits_of labels))
  pub long : w.sets.len ≡ was.sets.len + length (codes (bits_of labels))
  pub holds : SetsHold before was [] → SetsHold after w labels

-- the rows of the model rise, and behind what is written the space holds them
pub record RowsFit (M : Kripke) (buffer : List ℕ) (w : Rows) : Type 0 where
  pub rising : AllByRecursion (RisingRow M.frame.size) (rows_of M)
  pub states : w.rows.states ≡ M.frame.size
  pub none : w.rows.given ≡ 0
  pub fits : w.rows.len + length (codes (flat_map counted (rows_of M))) ≤ space_of buffer

-- the first rows of the model are given behind what was written
pub record RowsGiven (M : Kripke) (before after : List ℕ) (was : Rows) (count : ℕ) (w : Rows) : Type 0 where
  pub states : w.rows.states ≡ M.frame.size
  pub given : w.rows.given ≡ count
  pub text : after ≡ placed before was.rows.len (codes (flat_map counted (take count (rows_of M))))
  pub long : w.rows.len ≡ was.rows.len + length (codes (flat_map counted (take count (rows_of M))))
  pub holds : (labels : List Facts) → RowsHold before was labels [] → RowsHold after w labels (take count (rows_of M))
