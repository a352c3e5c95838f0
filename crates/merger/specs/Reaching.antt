-- What the reach table says, and what is seen from there.
use Rattle.std.specs.Prelude.{◌≡◌, ℕ, ◌<◌, ◌↔◌, List, [], slice_index_or}
use Rattle.sets.specs.declared.Set.{Set}
use Rattle.sets.specs.Sets.{In}
use Rattle.merger.specs.declared.partition.Partition.{Partition}
use Rattle.merger.specs.declared.reach.Reach.{Reach}
use Rattle.merger.specs.Grids.{at, set_at, Ahead}

-- component k reaches component l
abbrev pub On : Reach → ℕ → ℕ → Type 0
On reach k l = at (slice_index_or reach.rows k []) l ≡ 1

-- class c is one move ahead of a component that component k reaches
abbrev pub Outlook : Reach → List Set → Partition → ℕ → ℕ → Type 0
Outlook reach moves P k c = (l : ℕ) × (l < P.len) × On reach k l × Ahead (In (set_at moves l)) (at P.class) l c

-- rows has, for each component in wanted, the classes that are ahead of what it reaches
abbrev pub Outlooks : List Set → Reach → List Set → Partition → Set → Type 0
Outlooks rows reach moves P wanted = (k : ℕ) → In wanted k → (c : ℕ) → In (set_at rows k) c ↔ Outlook reach moves P k c

-- reach' is reach without the pairs that are in two classes
abbrev pub Narrowed : Reach → Reach → Partition → Type 0
Narrowed reach reach' P = (k l : ℕ) → k < P.len → l < P.len → On reach' k l ↔ (On reach k l × (at P.class l ≡ at P.class k))
