-- What the component search answers.
use Rattle.std.specs.Prelude.{◌≡◌, ℕ, ◌<◌, ◌≤◌, ◌⊎◌, ◌↔◌, List, length, Ok, Err, Result}
use Rattle.sets.specs.declared.Set.{Set}
use Rattle.sets.specs.Sets.{In}
use Rattle.kripke.specs.Models.{Kripke, Alike}
use Rattle.kripke.specs.Numbering.{Numbering}
use Rattle.kripke.specs.Paths.{Move}
use Rattle.kripke.specs.Components.{Components, Cyclic, numbered}
use Rattle.components.specs.Rows.{Edge, Both}
use Rattle.components.specs.Numbers.{number}
use Rattle.components.specs.declared.Found.{Found}
use Rattle.components.specs.declared.Refused.{Refused}
use Rattle.components.specs.declared.Refused.TheVariants.{TooMany, ShortScratch}
use Rattle.components.specs.declared.marks.Walk.{Walk}

-- the most states that are searched
abbrev pub most : ℕ
most = 128

-- why a search of n states is refused, with memory for so many walk records and state numbers
abbrev pub Refuses : Refused → (n walks states : ℕ) → Type 0
Refuses TooMany n walks states = most < n
Refuses ShortScratch n walks states = (n ≤ most) × ((walks < n) ⊎ (states < n))

-- n states are not too many, and there is memory for as many walk records and state numbers
abbrev pub Room : (n walks states : ℕ) → Type 0
Room n walks states = (n ≤ most) × (n ≤ walks) × (n ≤ states)

-- order has the numbers of the components of n states, each once, and each behind those that its states move to by E
pub record Ordered (E : ℕ → ℕ → Type 0) (n : ℕ) (part : List ℕ) (count : ℕ) (order : List ℕ) : Type 0 where
  pub low : (c : ℕ) → c < count → number order c < count
  pub each : (s : ℕ) → s < n → (c : ℕ) × (c < count) × (number order c ≡ number part s)
  pub later : (s t c d : ℕ) → E s t → c < count → d < count → number order c ≡ number part s → number order d ≡ number part t → d ≤ c

-- a move between alike states
abbrev pub Inside : Kripke → ℕ → ℕ → Type 0
Inside M s t = Alike M s t × Move M.frame s t

-- part' is part with the components of M at its front, numbered by first member; found has their number, which of them hold
-- a cycle, and their order
pub record Finds (M : Kripke) (part part' : List ℕ) (found : Found) : Type 0 where
  pub components : Components M.frame (Alike M) (number part') found.count
  pub cyclic : (i : ℕ) → In found.cyclic i ↔ Cyclic M.frame (numbered M.frame (number part') i)
  pub rest : (s : ℕ) → M.frame.size ≤ s → number part' s ≡ number part s
  pub order : Ordered (Inside M) M.frame.size part' found.count found.order

-- the same of states by their rows: two have one number exactly where moves lead from each to the other,
-- and a component holds a cycle where one of its states moves to one of its states
pub record FindsIn (rows : List Set) (part part' : List ℕ) (found : Found) : Type 0 where
  pub numbering : Numbering (Both rows) (length rows) (number part') found.count
  pub cyclic : (i : ℕ) → In found.cyclic i ↔ ((s t : ℕ) × Edge rows s t × (number part' s ≡ i) × (number part' t ≡ i))
  pub rest : (s : ℕ) → length rows ≤ s → number part' s ≡ number part s
  pub order : Ordered (Edge rows) (length rows) part' found.count found.order

-- the answer of a search of n states that finds what F says: a refused search alters nothing; an accepted one has room,
-- and what it leaves in the memory lent for the walk is free
abbrev pub Answered : ℕ → (F : (part part' : List ℕ) → Found → Type 0) → (walks walks' : List Walk) (states states' part part' : List ℕ) → Result Found Refused → Type 0
Answered n F walks walks' states states' part part' (Ok found) = Room n (length walks) (length states) × F part part' found
Answered n F walks walks' states states' part part' (Err why) =
    Refuses why n (length walks) (length states) × (walks' ≡ walks) × (states' ≡ states) × (part' ≡ part)

-- of a model
abbrev pub Answers : Kripke → (walks walks' : List Walk) (states states' part part' : List ℕ) → Result Found Refused → Type 0
Answers M = Answered M.frame.size (Finds M)

-- of states by their rows
abbrev pub AnswersIn : List Set → (walks walks' : List Walk) (states states' part part' : List ℕ) → Result Found Refused → Type 0
AnswersIn rows = Answered (length rows) (FindsIn rows)
