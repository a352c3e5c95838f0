use Rattle.std.proofs.Common.{◌≡◌, ap, ◌∙◌, zero-add, arith, Some}
use Rattle.modelfile.specs.Files.{Sized}
use Rattle.writing.specs.Writings.{Begun}
use Rattle.writing.proofs.Holds.{begun_holds}
use Rattle.writing.proofs.protocol.begin.Goals as goal

pub returns : goal.returns
returns c =
    let got : c.append.result ≡ Some c.in_ok-len.len = grind arith in
    let put = rw got at c.append.ensures in
    let sized : Sized c.args.states = (omega arith, omega arith) in
    let end = put.1 ∙ zero-add _ in
    let done : Begun c.args.states c.args.buffer.now c.append.new.buffer (record { sets = record { states = c.args.states; given = 0; len = c.in_ok-len.len } }) =
    record { sized = sized; space = put.0; state = ap (λ k. record { sets = record { states = c.args.states; given = 0; len = k } }) end; text = put.2 } in
    record { answer = done; holds = begun_holds _ _ _ _ done }
