use Rattle.std.proofs.Common.{length, ap, arith}
use Rattle.sets.proofs.Members.{members_split}
use Rattle.sets.proofs.IntoIterIterator.next.Goals as goal

pub returns-clause-goes : goal.returns-clause-goes
returns-clause-goes c =
    let e = ap length (members_split _ _ _ c.in_ok-first.ensures) in
    record { on = λ _. (tt, tt, omega arith); keeps = tt; rests = λ _. tt }
