-- Bytes judged as a row, one after another.
use Rattle.std.proofs.Common.{ℕ, ◌+◌, ◌<◌, ◌≤◌, Bool, true, false, leb, ◌&&◌, MatchBool, List, [], ◌∷◌, ◌++◌, inl, inr, arith}
use Rattle.std.specs.List.{AllByRecursion}
use Rattle.std.proofs.ByRecursion.{All-push, All-weaker}
use Rattle.std.proofs.lemmas.Bool.Decides.{leb_tells}
use Rattle.kripke.specs.Reduced.{Rising}
use Rattle.modelfile.specs.Files.{RisingRow}
use Rattle.modelfile.specs.Walks.{Lowest}
use Rattle.modelfile.proofs.Rise.{rising_front, lowest_more}

-- whether the targets so far rise, and then the least that may follow
pub record Judged (ts : List ℕ) (rises : Bool) (low : ℕ) : Type 0 where
  pub told : MatchBool rises (Rising ts × AllByRecursion (λ t. t < low) ts) (Rising ts → ⊥)
  pub lowest : Rising ts → Lowest ts low
  pub least : (n : ℕ) → AllByRecursion (λ t. t < n) ts → low ≤ n

pub judged_none : Judged [] true 0
judged_none = record {
  told = ((λ k h. absurd (omega arith)), tt);
  lowest = λ r t. ((λ h k l. absurd (omega arith)), (λ q. omega arith));
  least = λ n h. omega arith;
}

last_below : (n : ℕ) (ts : List ℕ) (t : ℕ) → AllByRecursion (λ u. u < n) (ts ++ (t ∷ [])) → t < n
last_below n [] t h = h.0
last_below n (u ∷ us) t h = last_below n us t h.1

told_more : (ts : List ℕ) (rises : Bool) (low t : ℕ) → Judged ts rises low → MatchBool (rises && leb low t) (Rising (ts ++ (t ∷ [])) × AllByRecursion (λ u. u < t + 1) (ts ++ (t ∷ []))) (Rising (ts ++ (t ∷ [])) → ⊥)
told_more ts true low t j = elim (leb_tells low t) [
  | inl p ↦ rw p.0 (
    (j.lowest j.told.0 t).0 p.1,
    All-push (λ u. u < t + 1) ts t (All-weaker (λ u. u < low) (λ u. u < t + 1) (λ u l. omega arith) ts j.told.1) (omega arith),
  )
  | inr p ↦ rw p.0 (λ r. omega (arith, (j.lowest j.told.0 t).1 r))
]
told_more ts false low t j = λ r. j.told (rising_front ts t r)

-- one target more, which has to be as large as the least that may follow
pub judged_more : (ts : List ℕ) (rises : Bool) (low t : ℕ) → Judged ts rises low → Judged (ts ++ (t ∷ [])) (rises && leb low t) (t + 1)
judged_more ts rises low t j = record {
  told = told_more ts rises low t j;
  lowest = lowest_more ts t;
  least = λ n h. omega (arith, last_below n ts t h);
}

-- all targets are judged: what follows the last is n at most
pub judged_row : (n : ℕ) (ts : List ℕ) (rises : Bool) (low : ℕ) → Judged ts rises low → MatchBool (rises && leb low n) (RisingRow n ts) (RisingRow n ts → ⊥)
judged_row n ts true low j = elim (leb_tells low n) [
  | inl p ↦ rw p.0 (record { rises = j.told.0; below = All-weaker (λ u. u < low) (λ u. u < n) (λ u l. omega arith) ts j.told.1 })
  | inr p ↦ rw p.0 (λ r. omega (arith, j.least n r.below))
]
judged_row n ts false low j = λ r. j.told r.rises
