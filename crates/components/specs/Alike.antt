-- The moves between alike states.
use Rattle.std.specs.Prelude.{ℕ, ◌<◌, ◌↔◌, List, slice_index_or}
use Rattle.models.specs.declared.facts.Facts.{Facts}
use Rattle.models.specs.Facts.{fact_words}
use Rattle.kripke.specs.Words.{SameWords}
use Rattle.kripke.specs.Models.{Kripke, Alike, words_at}
use Rattle.kripke.specs.Paths.{Move}
use Rattle.sets.specs.declared.Set.{Set}
use Rattle.sets.specs.Sets.{In}

-- no word holds
abbrev pub silent : Facts
silent = record { bits = 0 }

-- the table has the words of each state of M
abbrev pub Told : Kripke → List Facts → Type 0
Told M words = (s : ℕ) → s < M.frame.size → SameWords (fact_words (slice_index_or words s silent)) (words_at M s)

-- x is the set of the states that s moves to and that are alike to it
abbrev pub AlikeMoves : Kripke → ℕ → Set → Type 0
AlikeMoves M s x = (t : ℕ) → In x t ↔ (Alike M s t × Move M.frame s t)
