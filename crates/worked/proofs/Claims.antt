-- What is computed is what the definitions say.
use Rattle.std.proofs.Common.{ℕ, suc, ◌<◌, Bool, not, ◌&&◌, ◌||◌, ltb, length, refl, arith}
use native.Mathlib.Decide.{dec_lt}
use Rattle.kripke.specs.Models.{Frame, Kripke, WellFormed, Total, Alike}
use Rattle.kripke.specs.Relation.{Related, Stable}
use Rattle.kripke.proofs.Rounds.{alike_equivalence, related_equivalence}
use Rattle.kripke.proofs.Components.{Mutual, mutual_equivalence, mutual_components}
use Rattle.kripke.proofs.Claims.{rounds_settle}
use Rattle.worked.specs.Tables.{every, seek, look}
use Rattle.worked.specs.Decisions.{relation, mutual?, ranks, at, steady, settling?, below, total?}
use Rattle.worked.specs.Claims.{RelationComputed, StComputed, NextComputed, LoopComputed, ClassesComputed, ComponentsComputed, SettlingComputed, TruthComputed, TotalityComputed, ReductionComputed}
use Rattle.worked.proofs.Tests.{Tells, true_tells, tells_true, turned, both, implies, tells_lt, tells_every}
use Rattle.worked.proofs.Relating.{draws_relation, draws_inside, draws_outside, lists_loops, draws_mutual}
use Rattle.worked.proofs.Ranks.{tells_seek, ranked_right}
use Rattle.worked.proofs.Truth.{lists_truth}
use Rattle.worked.proofs.Rows.{Below, tells_below}
use Rattle.worked.proofs.Reducing.{tells_reduces}

pub relation_computed : RelationComputed
relation_computed M formed r s t h k = let d = draws_relation M formed r s t h k in (true_tells d, tells_true d)

pub st_computed : StComputed
st_computed M formed r s t h k = let d = draws_inside M formed r s t h k in (true_tells d, tells_true d)

pub next_computed : NextComputed
next_computed M formed r s t h k = let d = draws_outside M formed r s t h k in (true_tells d, tells_true d)

pub loop_computed : LoopComputed
loop_computed M formed r s h = let d = lists_loops M formed r s h in (true_tells d, tells_true d)

pub classes_computed : ClassesComputed
classes_computed M formed r = ranked_right M.frame.size (Related M r) (related_equivalence M r) (relation M r) (draws_relation M formed r)

pub components_computed : ComponentsComputed
components_computed M formed =
    let n : ℕ = M.frame.size in
    let E = alike_equivalence M in
    mutual_components M.frame (Alike M) E (at (ranks (mutual? M) n)) (ranks (mutual? M) n).count
    (ranked_right n (Mutual M.frame (Alike M)) (mutual_equivalence M.frame (Alike M) E) (mutual? M) (draws_mutual M formed))

pub tells_stable : (M : Kripke) → WellFormed M → (q : ℕ) → Tells (Stable M q) (steady M.frame.size (relation M q) (relation M (suc q)))
unfolding steady
tells_stable M formed q =
    let n : ℕ = M.frame.size in
    turned (λ p s t e. let b = (related_equivalence M q).members s t e in p s b.0 t b.1 e) (λ p s _ t _. p s t)
    (tells_every n (λ i. (j : ℕ) → j < n → Related M q i j → Related M (suc q) i j)
    (λ i. every n (λ j. not (look (relation M q) i j) || look (relation M (suc q)) i j))
    (λ i h. tells_every n (λ j. Related M q i j → Related M (suc q) i j) (λ j. not (look (relation M q) i j) || look (relation M (suc q)) i j)
    (λ j k. implies (draws_relation M formed q i j h k) (draws_relation M formed (suc q) i j h k))))

pub settling_computed : SettlingComputed
unfolding settling?
settling_computed M formed some =
    let n : ℕ = M.frame.size in
    let f : ℕ → Bool = λ q. steady n (relation M q) (relation M (suc q)) in
    let w = rounds_settle M formed some in
    let q : ℕ = w.2.0 in
    let s = tells_seek n (Stable M) f (λ i _. tells_stable M formed i) in
    let low : seek n f < n = elim (dec_lt (seek n f) n) [
      | yes h ↦ h
      | no o ↦ absurd (s.1 q (omega (arith, w.1, w.2.1)) (omega (arith, w.1, w.2.1)) w.2.2)
    ] in
    (seek n f, refl, s.0 low, λ p l. s.1 p (omega arith) l)

pub truth_computed : TruthComputed
truth_computed M f s h = let d = lists_truth M f s h in (true_tells d, tells_true d)

pub tells_total : (F : Frame) → Tells (Total F) (total? F)
unfolding total?
tells_total F =
    turned (λ p s h. record { some = (p s h).0; lands = (p s h).1 }) (λ t s h. ((t s h).some, (t s h).lands))
    (tells_every F.size (λ s. (0 < length (F.row s)) × Below F.size (F.row s))
    (λ s. ltb 0 (length (F.row s)) && below F.size (F.row s))
    (λ s _. both (tells_lt 0 (length (F.row s))) (tells_below F.size (F.row s))))

pub totality_computed : TotalityComputed
totality_computed M = let d = tells_total M.frame in (true_tells d, tells_true d)

pub reduction_computed : ReductionComputed
reduction_computed M formed r c m R whole = let d = tells_reduces M formed r c m R whole in (true_tells d, tells_true d)
