use Rattle.std.proofs.Common.{◌≡◌, ℕ, ◌≤◌, List, ◌++◌, length, map, min, take, ap, subst, ◌∙◌, arith}
use Rattle.std.proofs.lemmas.List.{take-append-le, take_min}
use Rattle.checker.specs.declared.steps.Step.{Step}
use Rattle.exported.specs.Jobs.{step_of, steps_of}
use Rattle.exported.proofs.jobs.read_steps.Goals as goal

all_read : (numbers : List ℕ) (items rest : List Step) (k n : ℕ) → n ≡ min 65 (length numbers) → n ≤ length items → k ≡ n → take k items ≡ map step_of (take k numbers) → take n (items ++ rest) ≡ steps_of numbers
all_read numbers items rest k n e held over read =
    take-append-le n items rest held ∙ subst (λ j. take j items ≡ map step_of (take j numbers)) over read ∙
    ap (map step_of) (ap (λ j. take j numbers) e ∙ take_min 65 numbers)

pub returns : goal.returns
returns c = all_read _ _ _ c.loop-k.k _ (omega (arith, c.min-count.ensures)) (omega arith) (omega arith) c.loop-k.invariant
