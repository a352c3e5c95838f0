-- What one round does to the tables, in their own terms.
use Rattle.std.specs.Prelude.{◌≡◌, ℕ, ◌+◌, ◌<◌, ◌≤◌, true, false, ◌↔◌, ◌≢◌}
use Rattle.sets.specs.Sets.{In}
use Rattle.kripke.specs.Words.{Words, Within}
use Rattle.kripke.specs.Models.{Frame}
use Rattle.kripke.specs.Paths.{Move}
use Rattle.kripke.specs.Numbering.{Numbering}
use Rattle.models.specs.declared.facts.Facts.{Facts}
use Rattle.models.specs.Facts.{fact_words}
use Rattle.merger.specs.declared.tables.Found.{Found}
use Rattle.merger.specs.declared.tables.Rounds.{Rounds}
use Rattle.merger.specs.Grids.{at, set_at}
use Rattle.merger.specs.Reaching.{On, Outlook}

-- the component of a state, and its class
abbrev pub part : Found → ℕ → ℕ
part F s = at F.component s

abbrev pub class_of : Found → Rounds → ℕ → ℕ
class_of F S s = at S.partition.class (part F s)

-- the words of a number of 64 bits
abbrev pub words_of : ℕ → Words
words_of bits = let f : Facts = record { bits = bits } in fact_words f

-- some state of component k moves to one of component l; of one component, it is then cyclic
abbrev pub Passes : Frame → (ℕ → ℕ) → ℕ → ℕ → Type 0
Passes F part k l = (s t : ℕ) × Move F s t × (part s ≡ k) × (part t ≡ l)

-- the tables stand within their bounds
pub record Bounded (F : Found) (S : Rounds) : Type 0 where
  pub wide : F.states ≤ 128
  pub parts : (s : ℕ) → s < F.states → part F s < F.components
  pub items : S.partition.len ≡ F.components
  pub room : S.made ≤ 129
  pub moves : (k l : ℕ) → k < F.components → In (set_at F.moves k) l → l < F.components
  pub spoken : F.words ≤ 64
  pub within : (k : ℕ) → k < F.components → Within F.words (words_of (at F.facts k))
  pub near : (k l : ℕ) → k < F.components → l < F.components → On S.reach k l → at S.partition.class k ≡ at S.partition.class l

-- two components that one more round leaves together: one class, and the same classes ahead of what they reach
abbrev pub Together : Found → Rounds → ℕ → ℕ → Type 0
Together F S j k =
    (at S.partition.class j ≡ at S.partition.class k) ×
    ((c : ℕ) → Outlook S.reach F.moves S.partition j c ↔ Outlook S.reach F.moves S.partition k c)

-- S' is S after one more round
pub record Advanced (F : Found) (S S' : Rounds) : Type 0 where
  pub made : S'.made ≡ S.made + 1
  pub classes : Numbering (Together F S) F.components (at S'.partition.class) S'.partition.classes
  pub items : S'.partition.len ≡ F.components
  pub reach : (k l : ℕ) → k < F.components → l < F.components →
      On S'.reach k l ↔ (On S.reach k l × (at S'.partition.class k ≡ at S'.partition.class l))
  pub ends : S'.settled ≡ true → S'.partition.classes ≡ S.partition.classes
  pub goes : S'.settled ≡ false → S'.partition.classes ≢ S.partition.classes
