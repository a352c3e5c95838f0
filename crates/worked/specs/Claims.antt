-- What is computed is what the definitions say.
use Rattle.std.specs.Prelude.{◌≡◌, ℕ, ◌<◌, true, false, ◌↔◌, slice_index_or}
use Rattle.kripke.specs.Models.{Kripke, WellFormed, Total, Alike}
use Rattle.kripke.specs.Formulas.{Formula, Holds}
use Rattle.kripke.specs.Relation.{ST, NEXT, LOOP, Related, Settles}
use Rattle.kripke.specs.Numbering.{Numbering}
use Rattle.kripke.specs.Components.{Components}
use Rattle.kripke.specs.Reduced.{Reduces}
use Rattle.worked.specs.Tables.{look}
use Rattle.worked.specs.Decisions.{related?, inside, outside, loops, classes?, components?, settling?, at, holds?, total?, reduces?}

-- C_r, by r rounds on tables
abbrev pub RelationComputed : Type 0
RelationComputed =
    (M : Kripke) → WellFormed M → (r s t : ℕ) → s < M.frame.size → t < M.frame.size → (related? M r s t ≡ true) ↔ Related M r s t

-- ST, NEXT and LOOP by C_r
abbrev pub StComputed : Type 0
StComputed =
    (M : Kripke) → WellFormed M → (r s t : ℕ) → s < M.frame.size → t < M.frame.size →
    (look (inside M r) s t ≡ true) ↔ ST M.frame (Related M r) s t

abbrev pub NextComputed : Type 0
NextComputed =
    (M : Kripke) → WellFormed M → (r s t : ℕ) → s < M.frame.size → t < M.frame.size →
    (look (outside M r) s t ≡ true) ↔ NEXT M.frame (Related M r) s t

abbrev pub LoopComputed : Type 0
LoopComputed =
    (M : Kripke) → WellFormed M → (r s : ℕ) → s < M.frame.size → (slice_index_or (loops M r) s false ≡ true) ↔ LOOP M.frame (Related M r) s

-- its classes by first member, and how many there are
abbrev pub ClassesComputed : Type 0
ClassesComputed = (M : Kripke) → WellFormed M → (r : ℕ) → Numbering (Related M r) M.frame.size (at (classes? M r)) (classes? M r).count

-- the components, and how many there are
abbrev pub ComponentsComputed : Type 0
ComponentsComputed = (M : Kripke) → WellFormed M → Components M.frame (Alike M) (at (components? M)) (components? M).count

-- the settling round
abbrev pub SettlingComputed : Type 0
SettlingComputed = (M : Kripke) → WellFormed M → 0 < M.frame.size → Settles M (settling? M)

-- truth of a formula at a state
abbrev pub TruthComputed : Type 0
TruthComputed = (M : Kripke) (f : Formula) (s : ℕ) → s < M.frame.size → (holds? M f s ≡ true) ↔ Holds M f s

-- totality
abbrev pub TotalityComputed : Type 0
TotalityComputed = (M : Kripke) → (total? M.frame ≡ true) ↔ Total M.frame

-- whether a model is the reduced model
abbrev pub ReductionComputed : Type 0
ReductionComputed =
    (M : Kripke) → WellFormed M → (r : ℕ) (c : ℕ → ℕ) (m : ℕ) (R : Kripke) → WellFormed R →
    (reduces? M r c m R ≡ true) ↔ Reduces M (Related M r) c m R
