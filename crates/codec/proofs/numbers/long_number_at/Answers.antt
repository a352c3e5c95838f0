use Rattle.std.proofs.Common.{◌^◌, ◌<◌, drop, rules}
use Rattle.codec.specs.Reading.{Begins}
use Rattle.codec.proofs.Standing.{stands}
use Rattle.codec.proofs.numbers.long_number_at.Goals as goal

pub returns : goal.returns
returns c =
    let small : c.in_ok-number.number < 2 ^ 64 = search rules in
    let begins : Begins (drop c.args.at c.args.file.now) c.in_ok-number.number c.in_ok-number.rest.now = search rules in
    stands _ _ _ _ small begins
