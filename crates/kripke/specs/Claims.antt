-- What follows from the definitions: the statements, each asked for by a function of src/theorems.rt.
use Rattle.std.specs.Prelude.{◌≡◌, ℕ, suc, ◌+◌, ◌<◌, ◌≤◌, ◌↔◌}
use Rattle.kripke.specs.Words.{SameWords}
use Rattle.kripke.specs.Models.{Frame, Kripke, WellFormed, Total, Alike}
use Rattle.kripke.specs.Equivalence.{Equivalence}
use Rattle.kripke.specs.Paths.{Move, Trail, Stays}
use Rattle.kripke.specs.Formulas.{Formula, globally, depth, Holds, Agree}
use Rattle.kripke.specs.Relation.{ST, Related, Stable, Settles}
use Rattle.kripke.specs.Numbering.{Ranked, Numbering}
use Rattle.kripke.specs.Components.{Components}
use Rattle.kripke.specs.Reduced.{Reduces, Smallest}

-- each C_r is an equivalence on the states
abbrev pub RoundsEquivalent : Type 0
RoundsEquivalent = (M : Kripke) (r : ℕ) → Equivalence M.frame.size (Related M r)

-- a later round relates no more
abbrev pub RoundsRefine : Type 0
RoundsRefine = (M : Kripke) (q r s t : ℕ) → q ≤ r → Related M r s t → Related M q s t

-- two states are related by C_r or are not
abbrev pub RoundsDecided : Type 0
RoundsDecided = (M : Kripke) → WellFormed M → (r s t : ℕ) → Dec (Related M r s t)

-- states of one component are never parted
abbrev pub ComponentsKept : Type 0
ComponentsKept =
    (M : Kripke) (part : ℕ → ℕ) (count : ℕ) → Components M.frame (Alike M) part count →
    (r s t : ℕ) → s < M.frame.size → t < M.frame.size → part s ≡ part t → Related M r s t

-- ST of the next round is the old ST, of which what is still related is kept
abbrev pub StNarrows : Type 0
StNarrows =
    (M : Kripke) (r s t : ℕ) → ST M.frame (Related M (suc r)) s t ↔ (ST M.frame (Related M r) s t × Related M (suc r) s t)

-- once a round parts nothing, no later round does
abbrev pub StableStays : Type 0
StableStays = (M : Kripke) (q r : ℕ) → q ≤ r → Stable M q → Stable M r × ((s t : ℕ) → Related M q s t ↔ Related M r s t)

-- some round settles, after at most as many rounds as there are states
abbrev pub RoundsSettle : Type 0
RoundsSettle = (M : Kripke) → WellFormed M → 0 < M.frame.size → (r : ℕ) × (r ≤ M.frame.size) × Settles M r

-- only one round does
abbrev pub SettledOnce : Type 0
SettledOnce = (M : Kripke) (q r : ℕ) → Settles M q → Settles M r → q ≡ r

-- with h classes of C_0, and m when round r settles, h + r is at most m + 1
abbrev pub RoundsCounted : Type 0
RoundsCounted =
    (M : Kripke) → WellFormed M → (r h m : ℕ) (a b : ℕ → ℕ) → Settles M r →
    Numbering (Related M 0) M.frame.size a h → Numbering (Related M r) M.frame.size b m → h + r ≤ m + 1

-- for each state a formula nested at most r deep holds at just the states that C_r relates to it
abbrev pub ClassFormula : Type 0
ClassFormula =
    (M : Kripke) → WellFormed M → (r s : ℕ) → s < M.frame.size →
    (f : Formula) × (depth f ≤ r) × ((t : ℕ) → t < M.frame.size → Holds M f t ↔ Related M r s t)

-- what r rounds part, a formula nested at most r deep tells apart: it holds at the one and not at the other
abbrev pub PartedByFormula : Type 0
PartedByFormula =
    (M : Kripke) → WellFormed M → (r s t : ℕ) → s < M.frame.size → t < M.frame.size → (Related M r s t → ⊥) →
    (f : Formula) × (depth f ≤ r) × Holds M f s × (Holds M f t → ⊥)

-- where one more round parts nothing, to be related is to agree on every formula
abbrev pub StableExact : Type 0
StableExact =
    (M : Kripke) → WellFormed M → (r : ℕ) → Stable M r → (s t : ℕ) → s < M.frame.size → t < M.frame.size → Related M r s t ↔ Agree M s M t

-- the reduced model of a settled C_r agrees with M at each state and its class
abbrev pub ReducedAgrees : Type 0
ReducedAgrees =
    (M : Kripke) (r m : ℕ) (c : ℕ → ℕ) (R : Kripke) → Stable M r → Numbering (Related M r) M.frame.size c m →
    Reduces M (Related M r) c m R → (s : ℕ) → s < M.frame.size → Agree M s R (c s)

-- and it is total if M is, and the smallest model that can stand for M
abbrev pub ReducedSmallest : Type 0
ReducedSmallest =
    (M : Kripke) → WellFormed M → Total M.frame → (r m : ℕ) (c : ℕ → ℕ) (R : Kripke) → Stable M r →
    Numbering (Related M r) M.frame.size c m → Reduces M (Related M r) c m R → Smallest R M

-- there is such a model, well formed, and only one
abbrev pub ReducedThere : Type 0
ReducedThere =
    (M : Kripke) → WellFormed M → (r m : ℕ) (c : ℕ → ℕ) → Stable M r → Numbering (Related M r) M.frame.size c m →
    (R : Kripke) × WellFormed R × Reduces M (Related M r) c m R

abbrev pub ReducedOnce : Type 0
ReducedOnce =
    (M : Kripke) (r m : ℕ) (c : ℕ → ℕ) (R X : Kripke) → Numbering (Related M r) M.frame.size c m →
    Reduces M (Related M r) c m R → Reduces M (Related M r) c m X →
    (i : ℕ) → i < m → SameWords (R.labels.words i) (X.labels.words i) × (R.frame.row i ≡ X.frame.row i)

-- by states with P a cycle is reached that has P throughout
abbrev pub Lasso : Frame → (ℕ → Type 0) → ℕ → Type 0
Lasso F P s = (x n k : ℕ) × Trail (Move F) P n s x × Trail (Move F) P (suc k) x x

-- EG f, a path of as many moves as there are states, is a path of every length, and one to a cycle, with f throughout
abbrev pub GloballyGoesOn : Type 0
GloballyGoesOn =
    (M : Kripke) (f : Formula) (s : ℕ) → s < M.frame.size →
    (Holds M (globally f) s ↔ ((n : ℕ) → Stays (Move M.frame) (Holds M f) n s)) × (Holds M (globally f) s ↔ Lasso M.frame (Holds M f) s)

-- at each state a formula holds or does not
abbrev pub TruthDecided : Type 0
TruthDecided = (M : Kripke) (f : Formula) (s : ℕ) → Dec (Holds M f s)

-- two numberings by first member that part the same members are one
abbrev pub NumbersOnce : Type 0
NumbersOnce =
    (n k m : ℕ) (f g : ℕ → ℕ) → Ranked n f k → Ranked n g m → ((s t : ℕ) → s < n → t < n → (f s ≡ f t) ↔ (g s ≡ g t)) →
    (k ≡ m) × ((s : ℕ) → s < n → f s ≡ g s)

-- so the classes of each C_r are numbered in one way only
abbrev pub ClassesOnce : Type 0
ClassesOnce =
    (M : Kripke) (r k m : ℕ) (f g : ℕ → ℕ) → Numbering (Related M r) M.frame.size f k → Numbering (Related M r) M.frame.size g m →
    (k ≡ m) × ((s : ℕ) → s < M.frame.size → f s ≡ g s)

-- and so are the components
abbrev pub ComponentsOnce : Type 0
ComponentsOnce =
    (M : Kripke) → WellFormed M → (k m : ℕ) (f g : ℕ → ℕ) → Components M.frame (Alike M) f k → Components M.frame (Alike M) g m →
    (k ≡ m) × ((s : ℕ) → s < M.frame.size → f s ≡ g s)

-- the classes of each C_r, and the components, have such numbers
abbrev pub ClassesThere : Type 0
ClassesThere = (M : Kripke) → WellFormed M → (r : ℕ) → (f : ℕ → ℕ) × (m : ℕ) × Numbering (Related M r) M.frame.size f m

abbrev pub ComponentsThere : Type 0
ComponentsThere = (M : Kripke) → WellFormed M → (f : ℕ → ℕ) × (m : ℕ) × Components M.frame (Alike M) f m
