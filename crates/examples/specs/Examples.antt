-- The example models, each by the tables of a listed case.
use Rattle.std.specs.Prelude.{◌≡◌, [], ◌∷◌}
use Rattle.models.specs.declared.facts.Facts.{Facts}
use Rattle.models.specs.declared.listed.Listed.{Listed as Tables}
use Rattle.modelfile.specs.Files.{offsets_of, targets_of}
use Rattle.worked.specs.Cases.{Listed, bits}

-- a model by tables has the labels and rows of a case
abbrev pub Tabled : Tables Facts → Listed → Type 0
Tabled m t = (m.labels.now ≡ t.labels) × (m.offsets.now ≡ offsets_of t.rows) × (m.targets.now ≡ targets_of t.rows)

-- two states without words; moves 0→1 and 1→0
unfoldable pub pair_listed : Listed
pair_listed = record {
  labels = bits 0 ∷ bits 0 ∷ [];
  rows = (1 ∷ []) ∷ (0 ∷ []) ∷ [];
}
