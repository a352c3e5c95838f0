use Rattle.std.proofs.Common.{◌+◌, ◌<◌, ap, ◌∙◌, rules}
use Rattle.modelfile.specs.Files.{RisingRow}
use Rattle.writing.specs.Writings.{RowDone}
use Rattle.writing.proofs.Holds.{row_holds}
use Rattle.writing.proofs.protocol.Rows.row.Goals as goal

pub returns : goal.returns
returns c =
    let was = c.args.self.rows in
    let put = c.in-Some.ensures in
    let more : was.given < was.states = search rules in
    let rising : RisingRow was.states c.args.targets.now = search rules in
    let next = c.with_next-rows.ensures ∙ ap (λ k. record was { given = was.given + 1; len = k }) put.1 in
    let done : RowDone c.args.self c.args.targets.now c.args.buffer.now c.append.new.buffer (record { rows = c.with_next-rows.result }) =
    record { more = more; rising = rising; space = put.0; state = ap (λ p. record { rows = p }) next; text = put.2 } in
    record { answer = done; holds = row_holds _ _ _ _ _ done }
