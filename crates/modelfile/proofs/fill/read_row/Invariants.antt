use Rattle.std.proofs.Common.{◌≡◌, ℕ, List, length}
use Rattle.modelfile.specs.Fills.{Sequence}
use Rattle.modelfile.proofs.Filling.{FilledTo}
use Rattle.modelfile.proofs.fill.read_row.Given as goal

-- any targets that stand there are read up to here
abbrev pub invariant-loop-target : goal.invariant-loop-target
invariant-loop-target l =
    (row : List ℕ) (next : ℕ) → length row ≡ length l.initial.row → Sequence l.file l.initial.at row next →
    FilledTo (λ (t : ℕ). t) l.file l.initial.row l.row row l.target-index l.at next
