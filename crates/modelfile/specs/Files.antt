-- What a model file holds, its bytes, and how lent tables hold the same.
use Rattle.std.specs.Prelude.{◌≡◌, ℕ, ◌+◌, ◌^◌, ◌<◌, ◌≤◌, List, [], ◌∷◌, ◌++◌, map, length, slice_index_or}
use Rattle.std.specs.List.{flat_map, AllByRecursion}
use Rattle.kripke.specs.Kinds.{listed_labels}
use Rattle.kripke.specs.Models.{Kripke}
use Rattle.kripke.specs.Reduced.{Rising}
use Rattle.models.specs.Facts.{fact_words}
use Rattle.models.specs.declared.facts.Facts.{Facts}
use Rattle.codec.specs.Numbers.{codes, counted}

-- the labels as numbers
abbrev pub bits_of : List Facts → List ℕ
bits_of labels = map (λ x. x.bits) labels

-- the numbers of a file in their order: N, the labels, and for each state its degree and its targets
abbrev pub numbers : List Facts → List (List ℕ) → List ℕ
numbers labels rows = (length labels ∷ bits_of labels) ++ flat_map counted rows

-- the bytes of a file
abbrev pub file_of : List Facts → List (List ℕ) → List ℕ
file_of labels rows = codes (numbers labels rows)

-- the most bytes of a file
abbrev pub longest : ℕ
longest = 32767

-- a number of states that a model may have
abbrev pub Sized : ℕ → Type 0
Sized n = (1 ≤ n) × (n ≤ 4096)

-- a row of a file with n states: the targets strictly rise, and each is a state
pub record RisingRow (n : ℕ) (row : List ℕ) : Type 0 where
  pub rises : Rising row
  pub below : AllByRecursion (λ t. t < n) row

-- a label is a number of 64 bits
abbrev pub Wide : Facts → Type 0
Wide x = x.bits < 2 ^ 64

-- what a file may hold: for each state a label and a row
pub record Valid (labels : List Facts) (rows : List (List ℕ)) : Type 0 where
  pub sized : Sized (length labels)
  pub wide : AllByRecursion Wide labels
  pub each : length rows ≡ length labels
  pub rising : AllByRecursion (RisingRow (length labels)) rows

-- the targets of all rows, one row after the other
abbrev pub targets_of : List (List ℕ) → List ℕ
targets_of rows = flat_map (λ row. row) rows

-- where each row begins among the targets, and where the last ends
abbrev pub offsets_from : ℕ → List (List ℕ) → List ℕ
offsets_from from [] = from ∷ []
offsets_from from (row ∷ rows) = from ∷ offsets_from (from + length row) rows

abbrev pub offsets_of : List (List ℕ) → List ℕ
offsets_of rows = offsets_from 0 rows

-- the model that a file denotes: state s has label s and row s
abbrev pub model_of : List Facts → List (List ℕ) → Kripke
model_of labels rows = record {
  frame = record { size = length labels; row = λ s. slice_index_or rows s [] };
  labels = listed_labels 64 fact_words labels;
}
