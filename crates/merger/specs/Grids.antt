-- Rows of numbers and of sets, a place for each component.
use Rattle.std.specs.Prelude.{◌≡◌, ℕ, ◌*◌, ◌/◌, ◌%◌, ◌^◌, ◌<◌, ◌⊎◌, ◌↔◌, List, ◌≢◌, slice_index, slice_index_or}
use Rattle.sets.specs.declared.Set.{Set}
use Rattle.sets.specs.Sets.{In, none}

-- place k of a row
abbrev pub at : List ℕ → ℕ → ℕ
at row k = slice_index row k

-- set k of a table
abbrev pub set_at : List Set → ℕ → Set
set_at sets k = slice_index_or sets k none

-- a number below 128 that words have, the same for the same words: the high bits of a product
abbrev pub slot : ℕ → ℕ
slot words = words * 0x9E3779B97F4A7C15 % 2 ^ 64 / 2 ^ 57

-- members has the items of each class, of those below count
pub record Groups (members : List Set) (class : List ℕ) (count : ℕ) : Type 0 where
  pub low : (k : ℕ) → k < count → at class k < 128
  pub each : (c k : ℕ) → In (set_at members c) k ↔ ((k < count) × (at class k ≡ c))

-- a move of component from to component to counts: it goes to another class, or stays in the component
abbrev pub Counts : (ℕ → ℕ) → ℕ → ℕ → Type 0
Counts class from to = (class to ≢ class from) ⊎ (to ≡ from)

-- class c is one move ahead of component from, whose moves are given
abbrev pub Ahead : (ℕ → Type 0) → (ℕ → ℕ) → ℕ → ℕ → Type 0
Ahead moves class from c = (to : ℕ) × moves to × Counts class from to × (class to ≡ c)

-- the set has two members
abbrev pub Several : Set → Type 0
Several x = (j k : ℕ) × In x j × In x k × (j ≢ k)

-- two sets have the same members
abbrev pub Same : Set → Set → Type 0
Same x y = (c : ℕ) → In x c ↔ In y c

-- components j and k stay together: one class, and the same row
abbrev pub Like : List Set → List ℕ → ℕ → ℕ → Type 0
Like rows class j k = (at class j ≡ at class k) × Same (set_at rows j) (set_at rows k)
