use Rattle.std.proofs.Common.{◌≡◌, ◌/◌, ◌%◌, ◌^◌, ◌<◌, arith}
use Rattle.std.proofs.lemmas.Fmt.{decimal_digit, decimal_step}
use Rattle.codec.proofs.Laid.{lays_one, lays_two, lays_three}
use Rattle.codec.proofs.text.put_short.Goals as goal

pub returns-then-number-lt10 : goal.returns-then-number-lt10
returns-then-number-lt10 c =
    let same : c.args.number % 10 ≡ c.args.number = omega arith in
    let room = c.requires.room in
    rw (decimal_digit c.args.number c.if-number-lt10.true, same) (lays_one _ _ (omega arith))

pub returns-then-tens-lt10 : goal.returns-then-tens-lt10
returns-then-tens-lt10 c =
    let small : c.args.number < 2 ^ 64 = omega (arith, c.requires.small) in
    let room = c.requires.room in
    rw (decimal_step c.args.number c.if-number-lt10.false small, decimal_digit (c.args.number / 10) c.if-tens-lt10.true) (lays_two _ _ _ (omega arith))

pub returns : goal.returns
returns c =
    let few = c.requires.small in
    let small : c.args.number < 2 ^ 64 = omega arith in
    let less : c.args.number / 10 < 2 ^ 64 = omega arith in
    let one : c.args.number / 10 / 10 < 10 = omega arith in
    rw (decimal_step c.args.number c.if-number-lt10.false small, decimal_step (c.args.number / 10) c.if-tens-lt10.false less, decimal_digit (c.args.number / 10 / 10) one)
    (lays_three _ _ _ _ c.requires.room)
