-- A table with a row for each state: the set of the numbers that the state moves to.
use Rattle.std.specs.Prelude.{ℕ, ◌<◌, List, length, slice_index_or}
use Rattle.sets.specs.declared.Set.{Set}
use Rattle.sets.specs.Sets.{In, none}
use Rattle.components.specs.Reach.{Leads}

abbrev pub row_at : List Set → ℕ → Set
row_at rows s = slice_index_or rows s none

-- a move from a state to a state; a number that has no row is none
abbrev pub Edge : List Set → ℕ → ℕ → Type 0
Edge rows s t = (s < length rows) × (t < length rows) × In (row_at rows s) t

-- moves lead from each of two states to the other
abbrev pub Both : List Set → ℕ → ℕ → Type 0
Both rows s t = Leads (Edge rows) s t × Leads (Edge rows) t s
