use Rattle.std.proofs.Common.{◌+◌, ◌<◌, ap, ◌∙◌, rules}
use Rattle.modelfile.specs.Files.{Wide}
use Rattle.writing.specs.Writings.{SetDone}
use Rattle.writing.proofs.Holds.{set_holds}
use Rattle.writing.proofs.protocol.Sets.set.Goals as goal

pub returns : goal.returns
returns c =
    let was = c.args.self.sets in
    let put = c.in-Some.ensures in
    let more : was.given < was.states = search rules in
    let wide : Wide c.args.facts = search rules in
    let next = c.with_next-sets.ensures ∙ ap (λ k. record was { given = was.given + 1; len = k }) put.1 in
    let done : SetDone c.args.self c.args.facts c.args.buffer.now c.append.new.buffer (record { sets = c.with_next-sets.result }) =
    record { more = more; space = put.0; state = ap (λ p. record { sets = p }) next; text = put.2 } in
    record { answer = done; holds = set_holds _ _ _ _ _ wide done }
