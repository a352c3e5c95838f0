use Rattle.std.proofs.Common.{◌≡◌, ◌+◌, ◌*◌, ◌≤◌, List, ◌∷◌, length}
use Rattle.models.specs.declared.facts.Facts.{Facts}
use Rattle.codec.specs.Numbers.{codes}
use Rattle.modelfile.specs.Files.{bits_of}
use Rattle.writing.specs.Saves.{Labelled}
use Rattle.writing.proofs.saving.labels_width.Given as goal

abbrev pub invariant-loop-s : goal.invariant-loop-s
invariant-loop-s g l =
    ((labels : List Facts) × Labelled (g.M.Model.means l.model) l.s labels × (l.wide ≡ length (codes ((g.M.Model.means l.model).frame.size ∷ bits_of labels))))
    × (l.wide ≤ 10 + 10 * l.s)
