use Rattle.std.proofs.Common.{rules, sym}
use Rattle.codec.proofs.Coding.{width_last}
use Rattle.codec.proofs.Widths.{width_by_bits, width_zero}
use Rattle.codec.proofs.numbers.Number.width.Goals as goal

pub returns-then-self : goal.returns-then-self
returns-then-self c = sym (width_last c.args.self.0 c.if-self.true)

pub returns : goal.returns
returns c = search (rules, width_by_bits c.args.self.0, width_zero c.args.self.0)
