-- The worked cases, computed.
use Rattle.std.proofs.Common.{◌≡◌, ℕ, ◌+◌, ◌<◌, Bool, true, false, not, ◌||◌, eqb, ◌↔◌, List, [], ◌∷◌, get_or, refl, inr, arith, lit<}
use mathlib.Core.Bool.{beq}
use Rattle.kripke.specs.Models.{WellFormed, Alike}
use Rattle.kripke.specs.Kinds.{beside, rested}
use Rattle.kripke.specs.Formulas.{Formula, top, word, neg, until, globally, Holds}
use Rattle.kripke.specs.Relation.{LOOP}
use Rattle.kripke.proofs.Tables.{listed_formed}
use Rattle.kripke.proofs.Sides.{beside_formed}
use Rattle.kripke.proofs.Rests.{rested_formed}
use Rattle.models.specs.Facts.{fact_words, facts_lawful}
use Rattle.modelfile.specs.Files.{offsets_of, targets_of}
use Rattle.worked.specs.Tables.{any, every, seek, row, lines}
use Rattle.worked.specs.Decisions.{among, moves, widen, close, roads, reached, looped, nexts, near, matches, finer, round, spoken, alike, relation, inside, outside, loops, mutual?, ranks, steady, settling?, ways, ends, keeps, truth, below, total?, rising?, move?, reduces?, related?, holds?}
use Rattle.worked.specs.Cases.{Worked, Listed, model, polls_listed, polls, merged_listed, merged, chain_listed, chain, lone_listed, lone, bare_listed, bare, of, Found}
use Rattle.worked.proofs.Tests.{Tells, holds, sure, never, true_tells, implies, equals, tells_eq, tells_every}
use Rattle.worked.proofs.Relating.{draws_relation, lists_loops}
use Rattle.worked.proofs.Truth.{lists_truth}
use Rattle.worked.proofs.Reducing.{tells_reduces}
use Rattle.worked.proofs.Found.{found?, found}
use Rattle.worked.proofs.Files.{polls_file, merged_file, bare_refused, three_hundred, one_two_seven, not_fewest}

model_formed : (t : Listed) → WellFormed (model t)
model_formed t = listed_formed 64 fact_words t.labels (offsets_of t.rows) (targets_of t.rows) facts_lawful

-- all that the tests compute with, and the models
unfoldable tests : Unit {0}
unfolding any every seek row lines among moves widen close roads reached looped nexts near matches finer round spoken alike relation inside outside loops mutual? ranks steady settling? ways ends keeps truth below total? rising? move? reduces? found?
tests = tt

unfoldable models : Unit {0}
unfolding polls_listed merged_listed chain_listed lone_listed bare_listed of
models = tt

polls_formed : WellFormed polls
polls_formed = model_formed polls_listed

abbrev pair_classes : List ℕ
pair_classes = 0 ∷ 0 ∷ 1 ∷ 0 ∷ 2 ∷ 0 ∷ 0 ∷ 1 ∷ 0 ∷ 2 ∷ []

of_pair : Found (beside polls polls) 10 2 2 3 pair_classes
unfolding models tests
of_pair = found (beside polls polls) (beside_formed polls polls polls_formed polls_formed) 10 2 2 3 pair_classes refl

-- s and s + 5 have the same class, so they are related
doubled : (s : ℕ) → s < 5 → of pair_classes s ≡ of pair_classes (s + 5)
unfolding models tests
doubled = sure (tells_every 5 (λ s. of pair_classes s ≡ of pair_classes (s + 5)) (λ s. eqb (of pair_classes s) (of pair_classes (s + 5)))
    (λ s _. tells_eq (of pair_classes s) (of pair_classes (s + 5))))

polls_loops : (s : ℕ) → s < 5 → Alike polls 0 s → LOOP polls.frame (Alike polls) s ↔ (s ≡ 4)
unfolding models tests
polls_loops = sure (tells_every 5 (λ s. Alike polls 0 s → LOOP polls.frame (Alike polls) s ↔ (s ≡ 4))
    (λ s. not (related? polls 0 0 s) || beq (get_or (loops polls 0) s false) (eqb s 4))
    (λ s h. implies (draws_relation polls polls_formed 0 0 s (lit< tt) h) (equals (lists_loops polls polls_formed 0 s h) (tells_eq s 4))))

-- where a formula holds
marked : (f : Formula) (P : ℕ → Type 0) (p : ℕ → Bool) → ((s : ℕ) → Tells (P s) (p s)) →
    every 5 (λ s. beq (holds? polls f s) (p s)) ≡ true → (s : ℕ) → s < 5 → Holds polls f s ↔ P s
unfolding models tests
marked f P p t = true_tells (tells_every 5 (λ s. Holds polls f s ↔ P s) (λ s. beq (holds? polls f s) (p s)) (λ s h. equals (lists_truth polls f s h) (t s)))

pub worked : Worked
unfolding models tests
worked = record {
  polls_file = polls_file;
  of_polls = found polls polls_formed 5 2 2 3 (0 ∷ 0 ∷ 1 ∷ 0 ∷ 2 ∷ []) refl;
  polls_loops = polls_loops;
  polls_merged = sure (tells_reduces polls polls_formed 2 (of (0 ∷ 0 ∷ 1 ∷ 0 ∷ 2 ∷ [])) 3 merged (model_formed merged_listed));
  merged_file = merged_file;
  of_chain = found chain (model_formed chain_listed) 6 4 3 6 (0 ∷ 1 ∷ 2 ∷ 3 ∷ 4 ∷ 5 ∷ []) refl;
  chain_together = sure (draws_relation chain (model_formed chain_listed) 1 0 3 (lit< tt) (lit< tt));
  chain_apart = never (draws_relation chain (model_formed chain_listed) 2 0 3 (lit< tt) (lit< tt));
  of_pair = of_pair;
  pair_doubled = λ s h. (of_pair.classes.same s (s + 5) (omega arith) (omega arith)).0 (doubled s h);
  of_lone = found lone (model_formed lone_listed) 1 1 1 1 (0 ∷ []) refl;
  bare_refused = bare_refused;
  of_rested = found (rested bare) (rested_formed bare (model_formed bare_listed)) 1 1 1 1 (0 ∷ []) refl;
  stays_off = marked (globally (neg (word 0))) (λ s. s ≡ 4) (λ s. eqb s 4) (λ s. tells_eq s 4) refl;
  gets_there = λ s h. (marked (until top (word 0)) (λ _. Unit {0}) (λ _. true) (λ _. holds tt) refl s h).1 tt;
  sun_set = refl;
  sun_up = refl;
  three_hundred = three_hundred;
  one_two_seven = one_two_seven;
  not_fewest = inr not_fewest;
  told = refl;
}
