-- What an open puts into the tables, in their own terms.
use Rattle.std.specs.Prelude.{◌≡◌, ℕ, ◌<◌, ◌≤◌, false, ◌⊎◌, ◌↔◌, List}
use Rattle.sets.specs.declared.Set.{Set}
use Rattle.sets.specs.Sets.{In}
use Rattle.kripke.specs.Words.{SameWords}
use Rattle.kripke.specs.Models.{Kripke, words_at}
use Rattle.kripke.specs.Paths.{Trail}
use Rattle.kripke.specs.Numbering.{Numbering}
use Rattle.merger.specs.declared.tables.Found.{Found}
use Rattle.merger.specs.declared.tables.Rounds.{Rounds}
use Rattle.merger.specs.declared.partition.Partition.{Partition}
use Rattle.merger.specs.Grids.{at, set_at}
use Rattle.merger.specs.Reaching.{On}
use Rattle.merger.specs.Tables.{words_of}

-- component k is component l, or moves to it, and they have one class
abbrev pub Inner : List Set → Partition → ℕ → ℕ → Type 0
Inner moves P k l = (k < P.len) × (l < P.len) × (at P.class k ≡ at P.class l) × ((l ≡ k) ⊎ In (set_at moves k) l)

-- order has the components, each once, and each behind those of its class that it moves to
pub record Behind (moves : List Set) (P : Partition) (order : List ℕ) : Type 0 where
  pub low : (c : ℕ) → c < P.len → at order c < P.len
  pub each : (k : ℕ) → k < P.len → (c : ℕ) × (c < P.len) × (at order c ≡ k)
  pub later : (k l c d : ℕ) → In (set_at moves k) l → at P.class k ≡ at P.class l → c < P.len → d < P.len → at order c ≡ k → at order d ≡ l → d ≤ c

-- the same, each behind those with its words that it moves to
pub record Sorted (F : Found) (order : List ℕ) : Type 0 where
  pub low : (c : ℕ) → c < F.components → at order c < F.components
  pub each : (k : ℕ) → k < F.components → (c : ℕ) × (c < F.components) × (at order c ≡ k)
  pub later : (k l c d : ℕ) → In (set_at F.moves k) l → SameWords (words_of (at F.facts k)) (words_of (at F.facts l)) →
      c < F.components → d < F.components → at order c ≡ k → at order d ≡ l → d ≤ c

-- facts has for component k the words of one of its states below n
abbrev pub Spoken : Kripke → List ℕ → List ℕ → ℕ → ℕ → Type 0
Spoken M component facts n k = (t : ℕ) × (t < n) × (at component t ≡ k) × SameWords (words_of (at facts k)) (words_at M t)

-- no round is made: the classes are those of the components' words, and the reach is by moves inside a class
pub record Started (F : Found) (S : Rounds) : Type 0 where
  pub made : S.made ≡ 0
  pub settled : S.settled ≡ false
  pub classes : Numbering (λ j k. SameWords (words_of (at F.facts j)) (words_of (at F.facts k))) F.components (at S.partition.class) S.partition.classes
  pub items : S.partition.len ≡ F.components
  pub reach : (k l : ℕ) → k < F.components →
      On S.reach k l ↔ ((n : ℕ) × Trail (Inner F.moves S.partition) (λ j. j < F.components) n k l)
