-- How a reduced model is filled from the tables.
use Rattle.std.specs.Prelude.{◌≡◌, ℕ, ◌<◌, List}
use Rattle.kripke.specs.Models.{Kripke, WellFormed}
use Rattle.kripke.specs.Relation.{Related}
use Rattle.kripke.specs.Reduced.{Reduces}
use Rattle.sets.specs.declared.Set.{Set}
use Rattle.merger.specs.declared.tables.Found.{Found}
use Rattle.merger.specs.declared.tables.Rounds.{Rounds}
use Rattle.merger.specs.declared.reduced.Reduced.{Reduced}
use Rattle.merger.specs.Grids.{at, set_at}
use Rattle.merger.specs.Filled.{filled}
use Rattle.merger.specs.Promise.{Classes, Stands}

-- the model that a reduced model means
abbrev pub meaning : Reduced → Kripke
meaning x = filled x.states x.words x.facts x.moves

-- each class has the facts and the row of one of its components
pub record Drawn (F : Found) (S : Rounds) (rows : List Set) (x : Reduced) : Type 0 where
  pub states : x.states ≡ S.partition.classes
  pub words : x.words ≡ F.words
  pub taken : (c : ℕ) → c < S.partition.classes →
      (k : ℕ) × (k < F.components) × (at S.partition.class k ≡ c) × (at x.facts c ≡ at F.facts k) × (set_at x.moves c ≡ set_at rows k)

-- R is the reduced model of M, whose classes after r rounds f numbers, and can stand for M
abbrev pub Fills : Kripke → ℕ → Kripke → Type 0
Fills M r R = WellFormed R × ((f : ℕ → ℕ) × (m : ℕ) × Classes M r f m × Reduces M (Related M r) f m R × Stands M f R)
