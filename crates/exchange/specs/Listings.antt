-- What a listing says of a model, and what the call that writes it answers and leaves.
use Rattle.std.specs.Prelude.{◌≡◌, ℕ, zero, suc, ◌<◌, ◌≤◌, if◌then◌else◌, false, List, [], ◌∷◌, ◌++◌, length, None, Result, MatchResult}
use Rattle.std.specs.List.{flat_map}
use Rattle.kripke.specs.Models.{Kripke}
use Rattle.kripke.specs.Relation.{Settles}
use Rattle.codec.specs.Pieces.{placed}
use Rattle.merger.specs.Calls.{Analysed}
use Rattle.merger.specs.Promise.{Classes as Numbered}
use Rattle.merger.specs.Refusals.{Refused}
use Rattle.merger.specs.Tables.{class_of}
use Rattle.merger.specs.Tells.{Sums}
use Rattle.merger.specs.declared.analysis.Analysis.{Analysis}
use Rattle.merger.specs.declared.answers.Refusal.{Refusal}
use Rattle.merger.specs.declared.answers.Summary.{Summary}
use Rattle.exchange.specs.Texts.{Line, States, Components, Labels, Rounds, Classes, Member, line_text}

-- the class of a state by the tables of an analysis
abbrev pub class_in : Analysis → ℕ → ℕ
class_in a s = class_of a.found a.rounds s

-- how many states have a class
abbrev pub states_in : Analysis → ℕ
states_in a = (if a.opened then a.found.states else 0)

-- the counts, each with its name
abbrev pub count_lines : Summary → List Line
count_lines x = States x.states ∷ Components x.components ∷ Labels x.labels ∷ Rounds x.rounds ∷ Classes x.classes ∷ []

-- the states below n, each with its class
abbrev pub members : (ℕ → ℕ) → ℕ → List Line
members class zero = []
members class (suc n) = members class n ++ (Member n (class n) ∷ [])

-- the lines tell of M after r rounds: how many states it has, how many components, classes of alike states, rounds and
-- classes of C_r, and each state's class, where the classes are numbered by first member
pub record Lines (M : Kripke) (r : ℕ) (lines : List Line) : Type 0 where
  pub counts : Summary
  pub sums : Sums M r counts
  pub class : ℕ → ℕ
  pub classed : Numbered M r class counts.classes
  pub are : lines ≡ count_lines counts ++ members class M.frame.size

-- the text of some lines
abbrev pub text_of : List Line → List ℕ
text_of lines = flat_map line_text lines

-- the lines of M stand at the buffer's front, and the answer is their length; or they have no room
abbrev pub Listed : Kripke → ℕ → List ℕ → List ℕ → Result ℕ Refusal → Type 0
Listed M r before after answer =
    (lines : List Line) × Lines M r lines ×
    MatchResult answer
    (λ len. (len ≡ length (text_of lines)) × (len ≤ length before) × (after ≡ placed before 0 (text_of lines)))
    (λ e. (length before < length (text_of lines)) × Refused answer 25 None)

pub record ListingAnswer (a : Analysis) (before after : List ℕ) (answer : Result ℕ Refusal) : Type 0 where
  pub shut : a.opened ≡ false → Refused answer 21 None
  pub going : (M : Kripke) (r : ℕ) → Analysed M r a → (Settles M r → ⊥) → Refused answer 24 None
  pub settled : (M : Kripke) (r : ℕ) → Analysed M r a → Settles M r → Listed M r before after answer
  -- whatever was opened, what is written stays inside the buffer, and a refusal alters nothing
  pub within : MatchResult answer (λ len. len ≤ length before) (λ _. after ≡ before)
