use Rattle.std.proofs.Common.{◌≡◌, ◌%◌, ◌^◌, ◌<◌, arith, rules}
use Rattle.std.proofs.lemmas.Fmt.{decimal_digit, decimal_step}
use Rattle.codec.proofs.Laid.{lays_then}
use Rattle.codec.proofs.text.+put_digits.Goals as goal

pub returns-then-number-lt10 : goal.returns-then-number-lt10
returns-then-number-lt10 t c =
    let last : c.args.number % 10 ≡ c.args.number = omega arith in
    rw (decimal_digit c.args.number c.if-number-lt10.true) (rw last at c.put.ensures)

pub returns : goal.returns
returns t c =
    let small : c.args.number < 2 ^ 64 = search rules in
    rw (decimal_step _ c.if-number-lt10.false small) (lays_then _ _ _ _ _ _ _ c.put_digits-end.ensures c.put-2.ensures)
