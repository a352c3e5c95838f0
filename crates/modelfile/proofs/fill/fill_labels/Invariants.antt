use Rattle.std.proofs.Common.{◌≡◌, ℕ, List, length}
use Rattle.models.specs.declared.facts.Facts.{Facts}
use Rattle.modelfile.specs.Files.{bits_of}
use Rattle.modelfile.specs.Fills.{Sequence}
use Rattle.modelfile.proofs.Filling.{FilledTo}
use Rattle.modelfile.proofs.fill.fill_labels.Given as goal

-- any labels that stand there are read up to here
abbrev pub invariant-loop-label : goal.invariant-loop-label
invariant-loop-label l =
    (ls : List Facts) (next : ℕ) → length ls ≡ length l.initial.labels → Sequence l.file l.initial.at (bits_of ls) next →
    FilledTo (λ (x : Facts). x.bits) l.file l.initial.labels l.labels ls l.label-index l.at next
