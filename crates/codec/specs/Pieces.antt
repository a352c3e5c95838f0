-- A piece written over a list from a place on, and what a call that writes one answers and leaves.
use Rattle.std.specs.Prelude.{◌≡◌, ℕ, ◌+◌, ◌<◌, ◌≤◌, List, [], ◌∷◌, ◌++◌, length, take, drop, min, Option, MatchOption}

-- the list with the piece written over it from place i on: what stands before and behind is left
abbrev pub placed : {X : Type 0} → List X → ℕ → List X → List X
placed xs i piece = take i xs ++ (piece ++ drop (i + length piece) xs)

-- the list with the piece laid over its front: what of the piece has no room is left out, and what stands behind is left
abbrev pub laid : {X : Type 0} → List X → List X → List X
laid [] piece = []
laid (x ∷ xs) [] = x ∷ xs
laid (x ∷ xs) (y ∷ piece) = y ∷ laid xs piece

-- the piece is laid over the front, and the answer is how much of it has room
pub record Lays {X : Type 0} (piece before after : List X) (count : ℕ) : Type 0 where
  pub over : after ≡ laid before piece
  pub counts : count ≡ min (length piece) (length before)

-- the piece is written, and the answer is where it ends; or it has no room, and nothing is altered
abbrev pub Writes : {X : Type 0} → List X → List X → ℕ → List X → Option ℕ → Type 0
Writes piece before at after answer =
    MatchOption answer
    ((length before < at + length piece) × (after ≡ before))
    (λ end. (end ≡ at + length piece) × (end ≤ length before) × (after ≡ placed before at piece))

-- how many places a piece takes, where that is at most so many
abbrev pub Measures : ℕ → ℕ → Option ℕ → Type 0
Measures wide most answer = MatchOption answer (most < wide) (λ w. (w ≡ wide) × (w ≤ most))
