-- What a stack holds.
use Rattle.std.specs.Prelude.{ℕ, List, ◌∷◌, drop}

-- the entries, the newest first, and how many find room
pub record Held (X : Type 0) : Type 0 where
  pub held : List X
  pub room : ℕ

-- one entry more
abbrev pub pushed : {X : Type 0} → Held X → X → Held X
pushed s x = record s { held = x ∷ s.held }

-- another newest entry
abbrev pub replaced : {X : Type 0} → Held X → X → Held X
replaced s x = record s { held = x ∷ drop 1 s.held }
