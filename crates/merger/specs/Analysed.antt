-- What the tables of an analysis say of the model that was opened.
use Rattle.std.specs.Prelude.{◌≡◌, ℕ, ◌<◌, Bool, true, false, ◌↔◌}
use Rattle.kripke.specs.Words.{SameWords}
use Rattle.kripke.specs.Models.{Kripke, WellFormed, Alike}
use Rattle.kripke.specs.Relation.{ST, Related, Stable, Settles}
use Rattle.kripke.specs.Numbering.{Numbering}
use Rattle.kripke.specs.Components.{Components}
use Rattle.survey.specs.Gaps.{Admitted}
use Rattle.sets.specs.Sets.{In}
use Rattle.merger.specs.declared.tables.Found.{Found}
use Rattle.merger.specs.declared.tables.Rounds.{Rounds}
use Rattle.merger.specs.Grids.{at, set_at}
use Rattle.merger.specs.Reaching.{On}
use Rattle.merger.specs.Tables.{part, class_of, words_of, Passes}

-- none of the first r rounds parted nothing
abbrev pub Unsettled : Kripke → ℕ → Type 0
Unsettled M r = (q : ℕ) → q < r → Stable M q → ⊥

-- what an accepted open has found of M, and no round alters
pub record Surveyed (M : Kripke) (F : Found) : Type 0 where
  pub formed : WellFormed M
  pub admitted : Admitted M.frame
  pub states : F.states ≡ M.frame.size
  pub words : F.words ≡ M.labels.count
  pub facts : (s : ℕ) → s < M.frame.size → SameWords (words_of (at F.facts (part F s))) (M.labels.words s)
  pub components : Components M.frame (Alike M) (part F) F.components
  pub moves : (k l : ℕ) → k < F.components → In (set_at F.moves k) l ↔ Passes M.frame (part F) k l

-- the tables after r rounds: the classes are those of C_r, numbered by first member, the reach is ST of the next round,
-- and the flag is set with the settling round
pub record Tabled (M : Kripke) (r : ℕ) (F : Found) (S : Rounds) : Type 0 where
  pub surveyed : Surveyed M F
  pub labels : (c : ℕ → ℕ) × Numbering (Related M 0) M.frame.size c F.labels
  pub made : S.made ≡ r
  pub classes : Numbering (Related M r) M.frame.size (class_of F S) S.partition.classes
  pub items : S.partition.len ≡ F.components
  pub reach : (s t : ℕ) → s < M.frame.size → t < M.frame.size → On S.reach (part F s) (part F t) ↔ ST M.frame (Related M r) s t
  pub ended : S.settled ≡ true → Settles M r
  pub going : S.settled ≡ false → Unsettled M r

-- whatever is opened is the analysis of some model after some rounds
abbrev pub Meant : Bool → Found → Rounds → Type 0
Meant opened F S = opened ≡ true → ∥ ((M : Kripke) × (r : ℕ) × Tabled M r F S) ∥₁
