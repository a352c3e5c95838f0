use Rattle.std.proofs.Common.{◌^◌, ◌<◌, rules}
use Rattle.codec.proofs.Widths.{digits_by_power, digits_zero}
use Rattle.codec.proofs.text.Decimal.width.Goals as goal

pub returns : goal.returns
returns c =
    let small : c.args.self.0 < 2 ^ 64 = search rules in
    search (rules, digits_by_power c.args.self.0, digits_zero c.args.self.0)
