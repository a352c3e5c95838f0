use Rattle.std.proofs.Common.{◌+◌, ◌≤◌, length, ap, arith}
use Rattle.codec.proofs.Laid.{lays_placed}
use Rattle.codec.proofs.pieces.Piece.write.Goals as goal

pub returns : goal.returns
returns g c =
    let wide = c.in_ok-wide.ensures in
    let room : c.args.at + length (g.Self.Piece.bytes c.args.self.now) ≤ length c.args.buffer.now = omega (arith, wide.0, wide.1) in
    (ap (λ n. c.args.at + n) wide.0, omega (arith, wide.1), lays_placed _ _ _ _ _ room c.put.ensures)
