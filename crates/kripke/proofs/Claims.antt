-- The claims, proved.
use Rattle.std.proofs.Common.{◌≡◌, ℕ, ◌<◌, subst, arith}
use mathlib.Core.Logic.Dec
use Rattle.kripke.specs.Models.{Alike}
use Rattle.kripke.specs.Formulas.{Holds}
use Rattle.kripke.specs.Relation.{Related}
use Rattle.kripke.specs.Numbering.{Numbering}
use Rattle.kripke.specs.Claims.{RoundsEquivalent, RoundsRefine, RoundsDecided, ComponentsKept, StNarrows}
use Rattle.kripke.specs.Claims.{StableStays, RoundsSettle, SettledOnce, RoundsCounted, ClassFormula, PartedByFormula, StableExact}
use Rattle.kripke.specs.Claims.{ReducedAgrees, ReducedSmallest, ReducedThere, ReducedOnce, GloballyGoesOn, TruthDecided}
use Rattle.kripke.specs.Claims.{NumbersOnce, ClassesOnce, ComponentsOnce, ClassesThere, ComponentsThere}
use Rattle.kripke.proofs.Paths.{stays_behind, stays_round}
use Rattle.kripke.proofs.Cycle.{lasso, pump}
use Rattle.kripke.proofs.Ranking.{ranked_few, ranked_same, ranked_count}
use Rattle.kripke.proofs.Numbering.{numbered, numbering_same, numbering_count}
use Rattle.kripke.proofs.Deciding.{dec_related}
use Rattle.kripke.proofs.Roads.{dec_ST}
use Rattle.kripke.proofs.Rounds.{alike_equivalence, related_equivalence, related_down, st_related, st_narrows}
use Rattle.kripke.proofs.Settling.{stable_later, related_later, classes, rounds_end_lem}
use Rattle.kripke.proofs.Components.{Mutual, mutual_equivalence, mutual_components, component_mutual, components_mutual, mutual_kept}
use Rattle.kripke.proofs.Stability.{stable_agrees}
use Rattle.kripke.proofs.Telling.{characteristic, characteristic_depth, characteristic_tells, parted}
use Rattle.kripke.proofs.Quotient.{reduced_agrees, reduced_smallest}
use Rattle.kripke.proofs.Reducing.{reduced_there, reduced_once}
use Rattle.kripke.proofs.Truth.{dec_holds}

pub rounds_equivalent : RoundsEquivalent
rounds_equivalent = related_equivalence

pub rounds_refine : RoundsRefine
rounds_refine M q r s t h p = related_down M r q s t h p

pub rounds_decided : RoundsDecided
rounds_decided = dec_related

pub components_kept : ComponentsKept
components_kept M part count K r s t h l e =
    let p = component_mutual M.frame (Alike M) (alike_equivalence M) part count K s t h l e in
    st_related M.frame (Related M r) (related_equivalence M r) s t (mutual_kept M r s t p).0

pub st_narrow : StNarrows
st_narrow = st_narrows

pub stable_stays : StableStays
stable_stays M q r h stable = (
  stable_later M q r h stable,
  λ s t. (related_later M q r h stable s t, related_down M r q s t h),
)

pub settled_once : SettledOnce
settled_once M q r A B =
    let low : A.0 < B.0 → ⊥ = λ l. B.3 A.0 l A.2 in
    let high : B.0 < A.0 → ⊥ = λ l. A.3 B.0 l B.2 in
    omega (arith, A.1, B.1)

pub rounds_counted : RoundsCounted
rounds_counted M formed r h m a b S A B =
    let w = rounds_end_lem M formed in
    let e : w.0 ≡ r = settled_once M w.0 r w.5 S in
    let same : w.1 ≡ h = numbering_count (Related M 0) M.frame.size w.1 h w.3 a w.6 A in
    let N = subst (λ z. Numbering (Related M z) M.frame.size w.4 w.2) e w.7 in
    let then : w.2 ≡ m = numbering_count (Related M r) M.frame.size w.2 m w.4 b N B in
    omega (arith, w.8)

pub rounds_settle : RoundsSettle
rounds_settle M formed some =
    let w = rounds_end_lem M formed in
    let few = ranked_few M.frame.size w.2 w.4 w.7.ranked in
    let first = w.6.ranked.below 0 some in
    (w.0, omega (arith, w.8), w.5)

pub class_formula : ClassFormula
class_formula M formed r s h = (characteristic M r s, characteristic_depth M r s, λ t k. characteristic_tells M formed r s t h k)

pub parted_by_formula_lem : PartedByFormula
parted_by_formula_lem = parted

pub stable_exact : StableExact
stable_exact M formed r stable s t h k =
    let c = classes M formed r in
    let tells = characteristic_tells M formed r s in (
      stable_agrees M r c.0 c.1.1.same stable s t h k,
      (λ a. (tells t h k).0 ((a (characteristic M r s)).0 ((tells s h h).1 ((related_equivalence M r).own s h)))),
    )

pub agrees_reduced : ReducedAgrees
agrees_reduced M r m c R stable N reduces s h = (reduced_agrees M r m c R stable N reduces s h).1

pub smallest_reduced : ReducedSmallest
smallest_reduced M formed total r m c R stable N reduces = reduced_smallest M r m c R stable N reduces formed total

pub there_reduced : ReducedThere
there_reduced M formed r m c stable N = reduced_there M formed r m c N stable

pub once_reduced : ReducedOnce
once_reduced M r m c R X N = reduced_once M (Related M r) m c R X N.ranked

pub globally_goes_on_lem : GloballyGoesOn
globally_goes_on_lem M f s h = (
  ((λ p. pump M.frame (Holds M f) s h p), (λ p. p M.frame.size)),
  (
    (λ p. lasso M.frame (Holds M f) s h p),
    (λ l. stays_behind M.frame (Holds M f) l.1 M.frame.size s l.0 l.3 (stays_round M.frame (Holds M f) l.2 l.0 l.4 M.frame.size)),
  ),
)

pub truth_decided_lem : TruthDecided
truth_decided_lem = dec_holds

pub numbers_once : NumbersOnce
numbers_once n k m f g A B both = (ranked_count n k m f g A B both, ranked_same n k m f g A B both)

numbering_once : (C : ℕ → ℕ → Type 0) (n k m : ℕ) (f g : ℕ → ℕ) → Numbering C n f k → Numbering C n g m → (k ≡ m) × ((s : ℕ) → s < n → f s ≡ g s)
numbering_once C n k m f g A B = (numbering_count C n k m f g A B, numbering_same C n k m f g A B)

pub classes_once : ClassesOnce
classes_once M r = numbering_once (Related M r) M.frame.size

pub components_once : ComponentsOnce
components_once M formed k m f g A B =
    let number = components_mutual M.frame (Alike M) (alike_equivalence M) in
    let d = dec_related M formed 0 in
    numbering_once (Mutual M.frame (Alike M)) M.frame.size k m f g (number f k A d) (number g m B d)

pub classes_there : ClassesThere
classes_there M formed r = let c = classes M formed r in (c.0, c.1.0, c.1.1)

pub components_there : ComponentsThere
components_there M formed =
    let L = Alike M in
    let E = alike_equivalence M in
    let d = dec_related M formed 0 in
    let near : (s t : ℕ) → Dec (Mutual M.frame L s t) = λ s t. Dec.and (dec_ST M.frame L d s t) (dec_ST M.frame L d t s) in
    let w = numbered M.frame.size (Mutual M.frame L) (mutual_equivalence M.frame L E) near in
    (w.0, w.1.0, mutual_components M.frame L E w.0 w.1.0 w.1.1)
