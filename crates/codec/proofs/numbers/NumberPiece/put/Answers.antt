use Rattle.codec.proofs.Coding.{code_last}
use Rattle.codec.proofs.numbers.NumberPiece.put.Goals as goal

pub returns-then-self : goal.returns-then-self
returns-then-self c = rw (code_last _ c.if-self.true) c.put.ensures
