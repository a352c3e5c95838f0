-- What the exported calls answer and leave.
use Rattle.std.specs.Prelude.{◌≡◌, ℕ, ◌<◌, ◌≤◌, List, length, take, map, if◌then◌else◌, ◌==◌, nat_lt, Option, MatchOption, Ok, Err, Result, MatchResult}
use Rattle.kripke.specs.Models.{Kripke, Alike}
use Rattle.kripke.specs.Components.{Components}
use Rattle.components.specs.Numbers.{number}
use Rattle.checker.specs.Refusals.{Checked, Refuses}
use Rattle.checker.specs.declared.steps.Step.{Step}
use Rattle.checker.specs.declared.steps.Step.TheVariants.{True, Word, Not, Or, Until, Globally}
use Rattle.checker.specs.declared.steps.Refused.{Refused}
use Rattle.kripke.specs.Relation.{Settles}
use Rattle.codec.specs.Pieces.{placed}
use Rattle.models.specs.declared.facts.Facts.{Facts}
use Rattle.modelfile.specs.Loads.{Tables}
use Rattle.merger.specs.Reducing.{Fills}
use Rattle.merger.specs.Tells.{OpenRefuses}
use Rattle.writing.specs.Saves.{Saved, SaveFault, space_of}
use Rattle.exchange.specs.Listings.{Lines, text_of}
use Rattle.exchange.specs.Settles.{Brought}
use Rattle.exchange.specs.Takes.{NotTaken as Untaken}
use Rattle.exchange.specs.Texts.{Line}
use Rattle.exchange.specs.declared.taking.TakeFault.TheVariants.{InFile, InModel}
use Rattle.exported.specs.declared.outcomes.MergeFault.{MergeFault}
use Rattle.exported.specs.declared.outcomes.MergeFault.TheVariants.{NotTaken, NoRoom}
use Rattle.exported.specs.declared.outcomes.ReduceFault.{ReduceFault}
use Rattle.exported.specs.declared.outcomes.ReduceFault.TheVariants.{NotTaken as NotReduced, NotSaved}

abbrev pub tables : List Facts → List ℕ → List ℕ → Tables
tables ls os ts = record { labels = ls; offsets = os; targets = ts }

-- how many walk records and state numbers there is memory for
abbrev pub scratch : ℕ
scratch = 128

-- the listing of M, settled, stands at the front; or it has no room, and nothing is altered
pub record Listing (M : Kripke) : Type 0 where
  pub rounds : ℕ
  pub settles : Settles M rounds
  pub lines : List Line
  pub tell : Lines M rounds lines

abbrev pub Lists : Kripke → List ℕ → List ℕ → Result ℕ MergeFault → Type 0
Lists M before after (Ok len) =
    (l : Listing M) × (len ≡ length (text_of l.lines)) × (len ≤ length before) × (after ≡ placed before 0 (text_of l.lines))
Lists M before after (Err (NotTaken fault)) = ⊥
Lists M before after (Err NoRoom) = (l : Listing M) × (length before < length (text_of l.lines)) × (after ≡ before)

-- of the model that a file denotes
abbrev pub MergesFile : List ℕ → (t t' : Tables) → (before after : List ℕ) → Result ℕ MergeFault → Type 0
MergesFile file t t' before after (Ok len) = Brought file t t' (λ M. Lists M before after (Ok len))
MergesFile file t t' before after (Err (NotTaken fault)) = Untaken file t t' scratch scratch fault × (after ≡ before)
MergesFile file t t' before after (Err NoRoom) = Brought file t t' (λ M. Lists M before after (Err NoRoom))

-- of a model that is given
abbrev pub MergesModel : Kripke → (before after : List ℕ) → Result ℕ MergeFault → Type 0
MergesModel M before after (Ok len) = Lists M before after (Ok len)
MergesModel M before after (Err (NotTaken (InFile fault))) = ⊥
MergesModel M before after (Err (NotTaken (InModel fault))) = OpenRefuses M scratch scratch fault × (after ≡ before)
MergesModel M before after (Err NoRoom) = Lists M before after (Err NoRoom)

-- a model that can stand for M and has the fewest states, as the analysis fills it
pub record Filling (M : Kripke) : Type 0 where
  pub rounds : ℕ
  pub settles : Settles M rounds
  pub model : Kripke
  pub fills : Fills M rounds model

abbrev pub ReducesFile : List ℕ → (t t' : Tables) → (before after : List ℕ) → Result ℕ ReduceFault → Type 0
ReducesFile file t t' before after (Ok len) = Brought file t t' (λ M. (x : Filling M) × Saved x.model before after len)
ReducesFile file t t' before after (Err (NotReduced fault)) = Untaken file t t' scratch scratch fault × (after ≡ before)
ReducesFile file t t' before after (Err (NotSaved fault)) =
    Brought file t t' (λ M. (x : Filling M) × (SaveFault x.model (space_of before) fault × (after ≡ before)))

-- the step that a number stands for: a word's, or 256 true, 257 not, 258 or, 259 until, 260 globally; any other stands for
-- a word that no model has
abbrev pub step_of : ℕ → Step
step_of n = if nat_lt n 256 then Word n else
    if n == 256 then True else if n == 257 then Not else if n == 258 then Or else if n == 259 then Until else if n == 260 then Globally else Word 255

-- no more than 65 are looked at, since more than 64 are refused
abbrev pub steps_of : List ℕ → List Step
steps_of ns = map step_of (take 65 ns)

-- the states where the formula of the steps is true are marked; or the check is refused, and the marks are left
abbrev pub ChecksModel : Kripke → List ℕ → (before after : List ℕ) → Result ℕ Refused → Type 0
ChecksModel M steps before after answer = MatchResult answer
    (λ len. (len ≡ M.frame.size) × Checked M (steps_of steps) before after)
    (λ why. Refuses M (steps_of steps) (length before) why × (after ≡ before))

-- the components of M at the front, numbered by first member, and how many there are; or there are too many states, and nothing
-- is altered
abbrev pub FindsComponents : Kripke → (before after : List ℕ) → Option ℕ → Type 0
FindsComponents M before after answer = MatchOption answer
    ((scratch < M.frame.size) × (after ≡ before))
    (λ count. (M.frame.size ≤ scratch) × Components M.frame (Alike M) (number after) count × ((s : ℕ) → M.frame.size ≤ s → number after s ≡ number before s))
