-- The lines of a listing as text.
use Rattle.std.specs.Prelude.{ℕ, List, [], ◌∷◌, codes, decimal}
use Rattle.codec.specs.Texts.{line}

-- a line: a count with its name, or a state and its class
pub data Line : Type 0 where
  States : ℕ → Line
  Components : ℕ → Line
  Labels : ℕ → Line
  Rounds : ℕ → Line
  Classes : ℕ → Line
  Member : ℕ → ℕ → Line

-- a name or a state, a space, a number in decimal, and a line feed
abbrev pub line_text : Line → List ℕ
line_text (States n) = line (codes "states") (n ∷ [])
line_text (Components n) = line (codes "components") (n ∷ [])
line_text (Labels n) = line (codes "labels") (n ∷ [])
line_text (Rounds n) = line (codes "rounds") (n ∷ [])
line_text (Classes n) = line (codes "classes") (n ∷ [])
line_text (Member s class) = line (decimal s) (class ∷ [])
