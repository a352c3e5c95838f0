-- Tests of a row of moves.
use Rattle.std.proofs.Common.{ℕ, zero, suc, ◌<◌, List, [], ◌∷◌, length, get_or, arith}
use Rattle.kripke.specs.Models.{Frame, nowhere}
use Rattle.kripke.specs.Paths.{Move}
use Rattle.kripke.specs.Reduced.{Rising}
use Rattle.worked.specs.Decisions.{below, rising?, move?}
use Rattle.worked.proofs.Tests.{Tells, holds, turned, both, tells_lt}
use Rattle.worked.proofs.Relating.{tells_among}

-- each target lies below n
abbrev pub Below : ℕ → List ℕ → Type 0
Below n l = (k : ℕ) → k < length l → get_or l k nowhere < n

pub tells_below : (n : ℕ) (l : List ℕ) → Tells (Below n l) (below n l)
unfolding below
tells_below n [] = holds (λ k h. absurd (omega arith))
tells_below n (x ∷ xs) = turned ahead (λ p. (p 0 (omega arith), λ k h. p (suc k) (omega arith))) (both (tells_lt x n) (tells_below n xs))
  where
    ahead : (x < n) × Below n xs → Below n (x ∷ xs)
    ahead p = elim [ zero ↦ λ h. p.0 | suc k ↦ λ h. p.1 k (omega arith) ]

pub tells_rising : (l : List ℕ) → Tells (Rising l) (rising? l)
unfolding rising?
tells_rising [] = holds (λ k h. absurd (omega arith))
tells_rising (x ∷ []) = holds (λ k h. absurd (omega arith))
tells_rising (x ∷ y ∷ l) = turned ahead (λ p. (p 0 (omega arith), λ k h. p (suc k) (omega arith))) (both (tells_lt x y) (tells_rising (y ∷ l)))
  where
    ahead : (x < y) × Rising (y ∷ l) → Rising (x ∷ y ∷ l)
    ahead p = elim [ zero ↦ λ h. p.0 | suc k ↦ λ h. p.1 k (omega arith) ]

pub tells_move : (F : Frame) (s t : ℕ) → Tells (Move F s t) (move? F s t)
unfolding move?
tells_move F s t =
    turned (λ p. (p.1.1.0, p.0, p.1.0, p.1.1.1, p.1.1.2)) (λ p. (p.1, (p.2, (p.0, p.3, p.4))))
    (both (tells_lt s F.size) (both (tells_lt t F.size) (tells_among (F.row s) t)))
