use Rattle.std.proofs.Common.{◌≡◌, take}
use Rattle.modelfile.proofs.fill.copy_row.Given as goal

-- the bytes up to here are copied
abbrev pub invariant-loop-k : goal.invariant-loop-k
invariant-loop-k l = take l.k l.row ≡ take l.k l.bytes
