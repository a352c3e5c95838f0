-- Numbers that stand one after another in a file, for the second pass, which fills the tables.
use Rattle.std.specs.Prelude.{◌≡◌, ℕ, ◌+◌, ◌^◌, ◌<◌, ◌≤◌, List, ◌++◌, length, take}
use Rattle.std.specs.List.{flat_map, AllByRecursion}
use Rattle.codec.specs.Numbers.{codes, counted}
use Rattle.modelfile.specs.Files.{targets_of}

-- the numbers ns stand from one place up to the next
pub record Sequence (file : List ℕ) (from : ℕ) (ns : List ℕ) (next : ℕ) : Type 0 where
  pub on : from ≤ next
  pub inside : next ≤ length file
  pub small : AllByRecursion (λ n. n < 2 ^ 64) ns
  pub text : take next file ≡ take from file ++ codes ns

-- a row stands at the place, which a table of so many targets holds, and each is one of so many states
pub record RowFits (file : List ℕ) (from room states : ℕ) : Type 0 where
  pub row : List ℕ
  pub next : ℕ
  pub many : length row ≡ room
  pub stands : Sequence file from row next
  pub sized : states ≤ 4096
  pub below : AllByRecursion (λ t. t < states) row

-- rows stand at the place, which tables of so many offsets and targets hold, and each target is one of their states
pub record RowsFit (file : List ℕ) (from offsets targets : ℕ) : Type 0 where
  pub rows : List (List ℕ)
  pub next : ℕ
  pub many : length rows + 1 ≡ offsets
  pub stand : Sequence file from (flat_map counted rows) next
  pub held : length (targets_of rows) ≤ targets
  pub few : length (targets_of rows) < 2 ^ 32
  pub sized : length rows ≤ 4096
  pub below : AllByRecursion (AllByRecursion (λ t. t < length rows)) rows
