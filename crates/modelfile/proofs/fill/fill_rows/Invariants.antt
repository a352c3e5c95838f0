use Rattle.std.proofs.Common.{◌≡◌, ℕ, List, length}
use Rattle.std.specs.List.{flat_map}
use Rattle.codec.specs.Numbers.{counted}
use Rattle.modelfile.specs.Fills.{Sequence}
use Rattle.modelfile.proofs.Filling.{RowsFilled}
use Rattle.modelfile.proofs.fill.fill_rows.Given as goal

-- any rows that stand there are read up to here
abbrev pub invariant-loop-offset : goal.invariant-loop-offset
invariant-loop-offset l =
    (rows : List (List ℕ)) (next : ℕ) → length rows ≡ length l.initial.offset-items → Sequence l.file l.initial.at (flat_map counted rows) next →
    RowsFilled l.file l.initial.offset-items l.offset-items l.initial.targets l.targets rows l.offset-index l.end l.at next
