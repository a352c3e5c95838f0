-- A row rises below n where each target is below the next, and the last is below n.
use Rattle.std.proofs.Common.{◌≡◌, ℕ, zero, suc, ◌+◌, ◌-◌, ◌<◌, ◌≤◌, ltb, Bool, true, false, MatchBool, List, length, get_or, add-one, add-suc, add-zero, sym, ◌∙◌, arith, ltb-true}
use Rattle.std.specs.List.{IsAllAdjacentAnswer}
use Rattle.std.proofs.ByRecursion.{all_from_every}
use Rattle.std.proofs.lemmas.Bool.{lt-ltb}
use Rattle.std.proofs.lemmas.Grind.{get_or_default_zero}
use Rattle.kripke.specs.Models.{nowhere}
use Rattle.kripke.specs.Reduced.{Rising}
use Rattle.modelfile.specs.Files.{RisingRow}

-- no target is above one behind it
not_above : (row : List ℕ) → Rising row → (j k : ℕ) → j + k < length row → get_or row j nowhere ≤ get_or row (j + k) nowhere
not_above row r j zero h = rw add-zero (omega arith)
not_above row r j (suc k) h =
    let step = r (j + k) (omega arith) in
    rw add-suc (omega (arith, not_above row r j k (omega arith)))

pub rising_answer : (n : ℕ) (row : List ℕ) (b : Bool) → (0 < length row → get_or row (length row - 1) 0 < n) → IsAllAdjacentAnswer (λ x y b. b ≡ ltb x y) row b → MatchBool b (RisingRow n row) (RisingRow n row → ⊥)
rising_answer n row true last sorted =
    let rises : Rising row = λ k h.
    let step : get_or row k nowhere < get_or row (k + 1) nowhere = ltb-true _ _ (sym (sorted k nowhere (omega arith))) in
    rw add-one at step
    in
    record {
      rises = rises;
      below = all_from_every (λ t. t < n) row (λ k d from upto.
          let end = last (omega arith) in
          let same : k + (length row - 1 - k) ≡ length row - 1 = omega arith in
          let low = rw same at (not_above row rises k (length row - 1 - k) (omega arith)) in
          omega (arith, get_or_default_zero row k d upto, get_or_default_zero row k nowhere upto, get_or_default_zero row (length row - 1) nowhere (omega arith)));
    }
rising_answer n row false last sorted = λ rising.
    let k = sorted.0 in
    let inside : suc k < length row = omega (arith, sorted.1) in
    let step : get_or row k nowhere < get_or row (k + 1) nowhere = rw add-one (rising.rises k inside) in
    let test : false ≡ true = sorted.2 nowhere ∙ lt-ltb _ _ step in
    cc
