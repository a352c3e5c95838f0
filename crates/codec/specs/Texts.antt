-- A line of text: a name, numbers in decimal with a space before each, and a line feed.
use Rattle.std.specs.Prelude.{ℕ, List, [], ◌∷◌, ◌++◌, decimal}
use Rattle.std.specs.List.{flat_map}

-- a space and a number
abbrev pub field : ℕ → List ℕ
field n = 32 ∷ decimal n

abbrev pub line : List ℕ → List ℕ → List ℕ
line name numbers = (name ++ flat_map field numbers) ++ (10 ∷ [])
