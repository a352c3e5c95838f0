-- What is asked of the words below a count says all, since no other word holds.
use Rattle.std.proofs.Common.{◌≡◌, ℕ, ◌+◌, ◌<◌, Bool, true, length, sym, zero-add, ◌∙◌, ⊎_elim, arith}
use Rattle.std.specs.Cmp.{booleans_Decides}
use Rattle.std.specs.List.{list_all, range_with_len}
use Rattle.std.proofs.Math.Bool.{beq}
use Rattle.std.proofs.lemmas.Bool.{cases_lt}
use Rattle.std.proofs.lemmas.List.FromFn.{length-range_with_len, get_or-range_with_len}
use Rattle.std.proofs.lemmas.List.Sums.{AllPass-from_list_all, list_all-from_AllPass}
use Rattle.kripke.specs.Words.{Words, SameWords, Within, TellsSame}

pub same_below : (n : ℕ) (v w : Words) → Within n v → Within n w → ((a : ℕ) → a < n → v a ≡ w a) → SameWords v w
same_below n v w p q h a = ⊎_elim (h a) (λ past. p a past ∙ sym (q a past)) (cases_lt a n)

-- whether each word below the count holds by both or by neither
pub tells_same : (n : ℕ) (v w : Words) (r : Bool) → Within n v → Within n w → r ≡ list_all (λ a. beq (v a) (w a)) (range_with_len 0 n) → TellsSame r v w
tells_same n v w r p q told =
    let each : ℕ → Bool = λ a. beq (v a) (w a) in (
      λ e. same_below n v w p q (λ a l.
          let inside : a < length (range_with_len 0 n) = omega (arith, length-range_with_len 0 n) in
          let at : each (0 + a) ≡ true = rw get_or-range_with_len at (AllPass-from_list_all each (range_with_len 0 n) (sym told ∙ e) a 0 inside) in
          (booleans_Decides (v a) (w a)).0 (rw (zero-add a) at at)),
      λ h. told ∙ list_all-from_AllPass each (range_with_len 0 n) (λ k d l. (booleans_Decides _ _).1 (h _)),
    )
