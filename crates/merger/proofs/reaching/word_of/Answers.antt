use Rattle.std.proofs.Common.{◌≡◌, ℕ, ◌*◌, arith}
use Rattle.sets.specs.Sets.{bit}
use Rattle.merger.specs.Grids.{at}
use Rattle.merger.proofs.Gathering.{eight}
use Rattle.merger.proofs.reaching.word_of.Goals as goal

pub returns : goal.returns
returns c =
    let x : ℕ → ℕ = at c.args.eight.now in
    let f = c.fits-eight in
    let sum = c.from_le_bytes.ensures in
    eight (λ i. x i ≡ 1 → bit c.from_le_bytes.result (8 * i) ≡ 1)
    (λ e. omega (arith, sum, f 0, f 1, f 2, f 3, f 4, f 5, f 6, f 7))
    (λ e. omega (arith, sum, f 0, f 1, f 2, f 3, f 4, f 5, f 6, f 7))
    (λ e. omega (arith, sum, f 0, f 1, f 2, f 3, f 4, f 5, f 6, f 7))
    (λ e. omega (arith, sum, f 0, f 1, f 2, f 3, f 4, f 5, f 6, f 7))
    (λ e. omega (arith, sum, f 0, f 1, f 2, f 3, f 4, f 5, f 6, f 7))
    (λ e. omega (arith, sum, f 0, f 1, f 2, f 3, f 4, f 5, f 6, f 7))
    (λ e. omega (arith, sum, f 0, f 1, f 2, f 3, f 4, f 5, f 6, f 7))
    (λ e. omega (arith, sum, f 0, f 1, f 2, f 3, f 4, f 5, f 6, f 7))
