use Rattle.std.proofs.Common.{◌≡◌, length}
use Rattle.components.proofs.Numbers.{Giving}
use Rattle.components.proofs.numbering.number.Given as goal

abbrev pub invariant-loop-s : goal.invariant-loop-s
invariant-loop-s l = Giving l.component l.cyclic l.s l.initial.part l.part l.given l.found × (length l.part ≡ 128)
