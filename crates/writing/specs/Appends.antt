-- A piece written behind the first bytes of a buffer, where the buffer and a file have room for it.
use Rattle.std.specs.Prelude.{◌≡◌, ℕ, ◌+◌, ◌≤◌, List, length, Option, MatchOption}
use Rattle.codec.specs.Pieces.{placed}
use Rattle.modelfile.specs.Files.{longest}

abbrev pub HasSpace : List ℕ → ℕ → List ℕ → Type 0
HasSpace buffer len piece = (len + length piece ≤ length buffer) × (len + length piece ≤ longest)

-- the piece is written, and the answer is where it ends; or it has no space, and nothing is altered
abbrev pub Appends : List ℕ → List ℕ → ℕ → List ℕ → Option ℕ → Type 0
Appends piece before len after answer =
    MatchOption answer
    ((HasSpace before len piece → ⊥) × (after ≡ before))
    (λ end. HasSpace before len piece × (end ≡ len + length piece) × (after ≡ placed before len piece))
