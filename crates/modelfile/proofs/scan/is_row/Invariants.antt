use Rattle.std.proofs.Common.{take}
use Rattle.modelfile.proofs.Judging.{Judged}
use Rattle.modelfile.proofs.scan.is_row.Given as goal

-- the bytes up to here are judged
abbrev pub invariant-loop-byte : goal.invariant-loop-byte
invariant-loop-byte l = Judged (take l.byte-index l.bytes) l.rises l.low
