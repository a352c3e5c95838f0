-- The search over the rows of a table: its way, what its steps keep true, and what is known when it is over.
use Rattle.std.specs.Prelude.{◌≡◌, ℕ, zero, suc, ◌+◌, ◌*◌, ◌<◌, ◌≤◌, ◌⊎◌, ◌↔◌, ◌≢◌, List, [], ◌∷◌, ◌++◌, length, Option}
use Rattle.std.specs.List.{cons_option}
use Rattle.sets.specs.declared.Set.{Set}
use Rattle.sets.specs.Sets.{bit, In}
use Rattle.stack.specs.Held.{Held, pushed}
use Rattle.components.specs.Reach.{Leads}
use Rattle.components.specs.Rows.{row_at, Edge}
use Rattle.components.specs.Numbers.{number}
use Rattle.components.specs.declared.marks.Walk.{Walk}
use Rattle.components.specs.declared.search.Search.{Search}

-- of some entry
abbrev pub Any : {X : Type 0} → (X → Type 0) → List X → Type 0
Any P [] = ⊥
Any P (x ∷ xs) = P x ⊎ Any P xs

-- s is on the way
abbrev pub On : List Walk → ℕ → Type 0
On ws s = Any (λ w. In w.states s) ws

-- a stretch of the way: some states that all reach one another, with the moves of all of them
pub record Stretch (rows : List Set) (w : Walk) : Type 0 where
  pub some : (s : ℕ) × In w.states s
  pub moves : (t : ℕ) → In w.moves t ↔ ((s : ℕ) × In w.states s × In (row_at rows s) t)
  pub joined : (s t : ℕ) → In w.states s → In w.states t → Leads (Edge rows) s t

-- the way, its newest stretch first: no state is on two stretches, and each state leads to those of the newer ones
abbrev pub Way : List Set → List Walk → Type 0
Way rows [] = Unit {0}
Way rows (w ∷ ws) =
    Stretch rows w
    × ((s : ℕ) → In w.states s → On ws s → ⊥)
    × ((s t : ℕ) → On ws s → In w.states t → Leads (Edge rows) s t)
    × Way rows ws

-- the numbers of the states on the way, those of the newest stretch first
abbrev pub Stacked : List Walk → List ℕ → Type 0
Stacked [] nums = nums ≡ []
Stacked (w ∷ ws) nums =
    (own rest : List ℕ) × (nums ≡ own ++ rest) × (length rest ≡ w.at) × ((s : ℕ) → In w.states s ↔ Any (λ x. x ≡ s) own) × Stacked ws rest

-- how many of the numbers below n are in a set
abbrev pub amount : ℕ → Set → ℕ
amount zero x = 0
amount (suc n) x = bit x.bits n + amount n x

-- s is a state in a component
abbrev pub Done : List Set → Search → ℕ → Type 0
Done rows S s = (s < length rows) × (In S.undone s → ⊥)

-- two states of component d, with a move from one to the other
abbrev pub Turns : List Set → Search → ℕ → Type 0
Turns rows S d = (s t : ℕ) × Done rows S s × Edge rows s t × (number S.component s ≡ d) × (number S.component t ≡ d)

-- what holds between any two steps
pub record Going (rows : List Set) (S : Search) : Type 0 where
  pub way : Way rows S.walk.held
  pub stacked : Stacked S.walk.held S.numbers.held
  pub states : (s : ℕ) → In S.undone s → s < length rows
  pub unmet : (s : ℕ) → In S.unmet s → In S.undone s × (On S.walk.held s → ⊥)
  pub on : (s : ℕ) → On S.walk.held s → In S.undone s
  pub met : (s : ℕ) → In S.undone s → (In S.unmet s → ⊥) → On S.walk.held s
  pub shut : (s t : ℕ) → Done rows S s → Edge rows s t → In S.undone t → ⊥
  pub same : (s t : ℕ) → Done rows S s → Done rows S t → number S.component s ≡ number S.component t → Leads (Edge rows) s t
  pub apart : (s t : ℕ) → Done rows S s → Done rows S t → Leads (Edge rows) s t → Leads (Edge rows) t s → number S.component s ≡ number S.component t
  pub below : (s : ℕ) → Done rows S s → number S.component s < S.count
  pub used : (d : ℕ) → d < S.count → (s : ℕ) × Done rows S s × (number S.component s ≡ d)
  pub later : (s t : ℕ) → Done rows S s → Edge rows s t → number S.component t ≤ number S.component s
  pub cyclic : (d : ℕ) → In S.cyclic d ↔ Turns rows S d
  pub few : length rows ≤ 128
  pub wide : length S.component ≡ 128
  pub numbers : (amount (length rows) S.unmet + length S.numbers.held + S.count ≤ length rows) × (length rows ≤ S.numbers.room)
  pub walks : (amount (length rows) S.unmet + length S.walk.held ≤ length rows) × (length rows ≤ S.walk.room)

-- what holds between any two walks
abbrev pub Resting : List Set → Search → Type 0
Resting rows S = Going rows S × (S.walk.held ≡ [])

-- a search with w on top of its way
abbrev pub walking : Search → Walk → Search
walking S w = record S { walk = pushed S.walk w }

-- the same, where there is such a w
abbrev pub walked : Search → Option Walk → Search
walked S o = record S { walk = record S.walk { held = cons_option o S.walk.held } }

-- there is room for one state more
abbrev pub RoomForOne : Search → Type 0
RoomForOne S = length S.numbers.held < S.numbers.room

-- S' is S with state t met: it is a stretch of the way by itself
pub record Entered (rows : List Set) (S : Search) (t : ℕ) (S' : Search) : Type 0 where
  pub states : Set
  pub alone : (s : ℕ) → In states s ↔ (s ≡ t)
  pub unmet : (s : ℕ) → In S'.unmet s ↔ (In S.unmet s × (s ≢ t))
  pub rest : S' ≡ record S {
    unmet = S'.unmet;
    numbers = pushed S.numbers t;
    walk = pushed S.walk (record { states = states; moves = row_at rows t; at = length S.numbers.held });
  }

-- S' is S, whose way ends with w, with its last two stretches made one
pub record Joins (S : Search) (w : Walk) (S' : Search) : Type 0 where
  pub below : Walk
  pub others : Held Walk
  pub states : Set
  pub moves : Set
  pub two : S.walk ≡ pushed others below
  pub either : (s : ℕ) → In states s ↔ (In below.states s ⊎ In w.states s)
  pub each : (t : ℕ) → In moves t ↔ (In below.moves t ⊎ In w.moves t)
  pub rest : S' ≡ record S { walk = pushed others (record { states = states; moves = moves; at = below.at }) }

-- S' is S with the states of w, which stand on top of the number stack, made a component
pub record Shuts (S : Search) (w : Walk) (S' : Search) : Type 0 where
  pub undone : (s : ℕ) → In S'.undone s ↔ (In S.undone s × (In w.states s → ⊥))
  pub closed : (s : ℕ) → In w.states s → number S'.component s ≡ S.count
  pub others : (s : ℕ) → (In w.states s → ⊥) → number S'.component s ≡ number S.component s
  pub cyclic : (d : ℕ) → In S'.cyclic d ↔ (In S.cyclic d ⊎ ((d ≡ S.count) × ((t : ℕ) × In w.moves t × In w.states t)))
  pub wide : length S'.component ≡ length S.component
  pub taken : (own rest : List ℕ) → S.numbers.held ≡ own ++ rest → length rest ≡ w.at → S'.numbers.held ≡ rest
  pub rest : S' ≡ record S {
    undone = S'.undone;
    component = S'.component;
    cyclic = S'.cyclic;
    count = S.count + 1;
    numbers = record S.numbers { held = S'.numbers.held };
  }

-- what each step lessens
abbrev pub left : List Set → Search → ℕ
left rows S = amount (length rows) S.unmet * 2 + length S.walk.held

-- one step from S to S'
pub record Next (rows : List Set) (S S' : Search) : Type 0 where
  pub going : Going rows S'
  pub falls : left rows S' < left rows S
  pub seen : amount (length rows) S'.unmet ≤ amount (length rows) S.unmet

-- the search is over: each state has a number below count, and each such number is some state's; two states have the same
-- exactly where moves lead both ways, and no move leads to a higher one
pub record Searched (rows : List Set) (S : Search) : Type 0 where
  pub below : (s : ℕ) → s < length rows → number S.component s < S.count
  pub used : (d : ℕ) → d < S.count → (s : ℕ) × (s < length rows) × (number S.component s ≡ d)
  pub later : (s t : ℕ) → Edge rows s t → number S.component t ≤ number S.component s
  pub few : S.count ≤ length rows
  pub same : (s t : ℕ) → s < length rows → t < length rows → number S.component s ≡ number S.component t ↔ (Leads (Edge rows) s t × Leads (Edge rows) t s)
  pub cyclic : (d : ℕ) → In S.cyclic d ↔ ((s t : ℕ) × Edge rows s t × (number S.component s ≡ d) × (number S.component t ≡ d))
