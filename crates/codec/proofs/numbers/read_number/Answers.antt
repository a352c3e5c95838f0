use Rattle.std.proofs.Common.{◌-◌, ◌<◌, ◌⊎◌, ◌≡◌, get_or, inl, inr, drop, length, sym, ◌∙◌, arith, rules}
use Rattle.std.proofs.lemmas.List.{length-drop, take_all}
use Rattle.codec.proofs.Fronts.{left_endless, left_none, left_last_fits, left_more_fits, left_scale_fits, left_zero, left_ends, left_more, left_one, left_other}
use Rattle.codec.proofs.Standing.{endless_if, not_endless_if}
use Rattle.codec.proofs.numbers.read_number.Goals as goal
use Rattle.codec.proofs.numbers.read_number.Goals.{then-has_end, else-has_end}

pub returns-in_default : goal.returns-in_default
returns-in_default c = left_none _ _ _ _ _ c.loop-k.invariant.0 c.loop-k.invariant.1 (omega (arith, c.in_default.len_below))

pub overflow_mul-result : goal.overflow_mul-result
overflow_mul-result c =
    let byte : get_or c.loop-k.left.now 0 0 < 256 = search rules in
    let few : c.loop-k.k < 9 = omega arith in
    let fits = left_last_fits _ _ _ _ _ c.loop-k.invariant.0 c.loop-k.invariant.1 (omega (arith, c.in-len1-up.len_at_least)) byte c.if-first-lt-MORE.true few in
    search rules

pub overflow_add-result : goal.overflow_add-result
overflow_add-result c =
    let byte : get_or c.loop-k.left.now 0 0 < 256 = search rules in
    let few : c.loop-k.k < 9 = omega arith in
    let fits = left_last_fits _ _ _ _ _ c.loop-k.invariant.0 c.loop-k.invariant.1 (omega (arith, c.in-len1-up.len_at_least)) byte c.if-first-lt-MORE.true few in
    search rules

pub returns-then-k-gt0 : goal.returns-then-k-gt0
returns-then-k-gt0 c =
    let byte : get_or c.loop-k.left.now 0 0 < 256 = search rules in
    left_zero _ _ _ _ _ c.loop-k.invariant.0 c.loop-k.invariant.1 (omega (arith, c.in-len1-up.len_at_least)) byte c.if-first-eq0.true c.if-k-gt0.true

pub returns-else-first-eq0 : goal.returns-else-first-eq0
returns-else-first-eq0 c =
    let byte : get_or c.loop-k.left.now 0 0 < 256 = search rules in
    let some : (0 < get_or c.loop-k.left.now 0 0) ⊎ (c.loop-k.k ≡ 0) = elim c.else-first-eq0.either [ inl p ↦ inr (omega arith) | inr p ↦ inl (omega arith) ] in
    let ends = left_ends _ _ _ _ _ c.loop-k.invariant.0 c.loop-k.invariant.1 (omega (arith, c.in-len1-up.len_at_least)) byte c.if-first-lt-MORE.true some in
    let all = take_all (length c.loop-k.left.now - 1) (drop 1 c.loop-k.left.now) (omega (arith, length-drop 1 c.loop-k.left.now)) in
    rw all ends

pub overflow_mul-low : goal.overflow_mul-low
overflow_mul-low c =
    let byte : get_or c.loop-k.left.now 0 0 < 256 = search rules in
    let few : c.loop-k.k < 9 = omega arith in
    let fits = left_more_fits _ _ _ _ _ c.loop-k.invariant.0 c.loop-k.invariant.1 (omega (arith, c.in-len1-up.len_at_least)) byte few in
    search rules

pub overflow_add-low : goal.overflow_add-low
overflow_add-low c =
    let byte : get_or c.loop-k.left.now 0 0 < 256 = search rules in
    let few : c.loop-k.k < 9 = omega arith in
    let fits = left_more_fits _ _ _ _ _ c.loop-k.invariant.0 c.loop-k.invariant.1 (omega (arith, c.in-len1-up.len_at_least)) byte few in
    search rules

pub overflow_mul-scale : goal.overflow_mul-scale
overflow_mul-scale c =
    let byte : get_or c.loop-k.left.now 0 0 < 256 = search rules in
    let few : c.loop-k.k < 9 = omega arith in
    let fits = left_scale_fits _ _ _ _ _ c.loop-k.invariant.0 c.loop-k.invariant.1 (omega (arith, c.in-len1-up.len_at_least)) byte few in
    search rules

pub loop-k-preserved : goal.loop-k-preserved
loop-k-preserved c =
    let byte : get_or c.loop-k.left.now 0 0 < 256 = search rules in
    let few : c.loop-k.k < 9 = omega arith in
    let on = left_more _ _ _ _ _ c.loop-k.invariant.0 c.loop-k.invariant.1 (omega (arith, c.in-len1-up.len_at_least)) byte (omega (arith, c.if-first-lt-MORE.false)) few in
    let all = take_all (length c.loop-k.left.now - 1) (drop 1 c.loop-k.left.now) (omega (arith, length-drop 1 c.loop-k.left.now)) in
    (on.0, rw all on.1)

pub returns-then-first-eq1 : goal.returns-then-first-eq1
returns-then-first-eq1 c =
    let byte : get_or c.loop-k.left.now 0 0 < 256 = search rules in
    let ten : c.loop-k.k ≡ 9 = omega arith in
    let all = take_all (length c.loop-k.left.now - 1) (drop 1 c.loop-k.left.now) (omega (arith, length-drop 1 c.loop-k.left.now)) in
    rw all (left_one _ _ _ _ _ c.loop-k.invariant.0 c.loop-k.invariant.1 (omega (arith, c.in-len1-up-left.len_at_least)) byte ten c.if-first-eq1.true)

pub returns : goal.returns
returns c =
    let left = c.loop-k.left.now in
    let byte : get_or left 0 0 < 256 = search rules in
    let ten : c.loop-k.k ≡ 9 = omega arith in
    elim c.if-has_end.branch [
      | then-has_end w ↦
          rw w.result-is (left_other _ _ _ _ _ c.loop-k.invariant.0 c.loop-k.invariant.1 (omega (arith, c.in-len1-up-left.len_at_least)) byte ten c.if-first-eq1.false
          (not_endless_if left (sym w.if-has_end.true ∙ c.has_end.ensures)))
      | else-has_end w ↦ rw w.result-is (left_endless _ _ _ _ _ c.loop-k.invariant.0 c.loop-k.invariant.1 (endless_if left (sym w.if-has_end.false ∙ c.has_end.ensures)))
    ]
