-- Formulas spelled one after the other, and the step that makes one of the last of them.
use Rattle.std.proofs.Common.{◌≡◌, ℕ, ◌+◌, ◌-◌, ◌<◌, ◌≤◌, List, [], ◌∷◌, ◌++◌, length, take, sym, refl, ap, ◌∙◌, arith}
use Rattle.std.proofs.lemmas.List.{append_assoc, take_more, take_all}
use Rattle.kripke.specs.Formulas.{Formula, top, word, neg, or, until, globally}
use Rattle.checker.specs.declared.steps.Step.{Step}
use Rattle.checker.specs.declared.steps.Step.TheVariants.{True, Word, Not, Or, Until, Globally}
use Rattle.checker.specs.Steps.{postfix, Denotes}
use Rattle.checker.specs.Reading.{takes, step_at, left_by, operands}
use Rattle.checker.proofs.Counts.{operands_more, operands-all}

-- the operands after a step, the last one first
abbrev pub after : Step → List Formula → List Formula
after True fs = top ∷ fs
after (Word a) fs = word a ∷ fs
after Not [] = []
after Not (f ∷ fs) = neg f ∷ fs
after Or [] = []
after Or (g ∷ []) = []
after Or (g ∷ f ∷ fs) = or f g ∷ fs
after Until [] = []
after Until (g ∷ []) = []
after Until (g ∷ f ∷ fs) = until f g ∷ fs
after Globally [] = []
after Globally (f ∷ fs) = globally f ∷ fs

after_length : (x : Step) (fs : List Formula) → takes x ≤ length fs → length (after x fs) ≡ length fs - takes x + 1
after_length True fs h = omega arith
after_length (Word a) fs h = omega arith
after_length Not [] h = absurd (omega arith)
after_length Not (f ∷ fs) h = omega arith
after_length Or [] h = absurd (omega arith)
after_length Or (g ∷ []) h = absurd (omega arith)
after_length Or (g ∷ f ∷ fs) h = omega arith
after_length Until [] h = absurd (omega arith)
after_length Until (g ∷ []) h = absurd (omega arith)
after_length Until (g ∷ f ∷ fs) h = omega arith
after_length Globally [] h = absurd (omega arith)
after_length Globally (f ∷ fs) h = omega arith

-- the steps of some formulas, the last one first
abbrev pub spelled : List Formula → List Step
spelled [] = []
spelled (f ∷ fs) = spelled fs ++ postfix f

spells_two : (fs : List Formula) (f g : Formula) (x : Step) → spelled (g ∷ f ∷ fs) ++ (x ∷ []) ≡ spelled fs ++ (postfix f ++ (postfix g ++ (x ∷ [])))
spells_two fs f g x = append_assoc (spelled fs ++ postfix f) (postfix g) (x ∷ []) ∙ append_assoc (spelled fs) (postfix f) (postfix g ++ (x ∷ []))

-- a step after its operands spells what they are after it
spells : (x : Step) (fs : List Formula) → takes x ≤ length fs → spelled fs ++ (x ∷ []) ≡ spelled (after x fs)
spells True fs h = refl
spells (Word a) fs h = refl
spells Not [] h = absurd (omega arith)
spells Not (f ∷ fs) h = append_assoc (spelled fs) (postfix f) (Not ∷ [])
spells Or [] h = absurd (omega arith)
spells Or (g ∷ []) h = absurd (omega arith)
spells Or (g ∷ f ∷ fs) h = spells_two fs f g Or
spells Until [] h = absurd (omega arith)
spells Until (g ∷ []) h = absurd (omega arith)
spells Until (g ∷ f ∷ fs) h = spells_two fs f g Until
spells Globally [] h = absurd (omega arith)
spells Globally (f ∷ fs) h = append_assoc (spelled fs) (postfix f) (Globally ∷ [])

-- the first i steps are those of the formulas, which are as many as they leave
pub record Reads (steps : List Step) (i : ℕ) (fs : List Formula) : Type 0 where
  pub spelling : take i steps ≡ spelled fs
  pub count : length fs ≡ operands steps i
  pub few : length fs ≤ i

pub reads_none : (steps : List Step) → Reads steps 0 []
reads_none steps = record { spelling = refl; count = refl; few = omega arith }

-- one step more
pub reads_more : (steps : List Step) (i : ℕ) (fs : List Formula) → i < length steps → takes (step_at steps i) ≤ length fs → Reads steps i fs →
    Reads steps (i + 1) (after (step_at steps i) fs)
reads_more steps i fs l h r =
    let x = step_at steps i in
    let left = after_length x fs h in
    record {
      spelling = take_more steps i True l ∙ ap (λ (ys : List Step). ys ++ (x ∷ [])) r.spelling ∙ spells x fs h;
      count = omega (arith, left, operands_more steps i l, r.count);
      few = omega (arith, left, r.few);
    }

-- one operand left: the steps denote it
pub denotes_one : (steps : List Step) (i : ℕ) (fs : List Formula) → length steps ≤ i → left_by 0 steps ≡ 1 → Reads steps i fs →
    (f : Formula) × (fs ≡ f ∷ []) × Denotes steps f
denotes_one steps i [] l one r = absurd (omega (arith, one, r.count, operands-all steps i l))
denotes_one steps i (f ∷ []) l one r = (f, refl, sym (take_all i steps l) ∙ r.spelling)
denotes_one steps i (g ∷ f ∷ fs) l one r = absurd (omega (arith, one, r.count, operands-all steps i l))
