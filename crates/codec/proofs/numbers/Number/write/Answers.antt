use Rattle.std.proofs.Common.{◌^◌, ◌<◌, rules}
use Rattle.codec.proofs.Standing.{written_stands}
use Rattle.codec.proofs.numbers.Number.write.Goals as goal

pub returns-clause-stands : goal.returns-clause-stands
returns-clause-stands c =
    let small : c.args.self.0 < 2 ^ 64 = search rules in
    written_stands _ _ _ _ _ small c.write.ensures
