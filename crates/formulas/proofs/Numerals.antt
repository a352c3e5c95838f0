-- Numbers of words, as a text.
use Rattle.std.proofs.Common.{◌≡◌, ℕ, ◌<◌, ◌≤◌, ◌↔◌, List, length, get_or, Result, Ok, decimal, sym, ◌∙◌, ap, subst, refl, ⊎_elim, arith}
use Rattle.std.specs.Str.Parse.{ParsesUnsigned, AllDigits, digits_value}
use Rattle.std.proofs.lemmas.Bool.{cases_lt}
use Rattle.std.proofs.lemmas.Fmt.{parse-decimal, decimal-digits_value, decimal_digit, first_decimal, decimal_is_IsNumeral}
use Rattle.std.proofs.lemmas.Result.{OkIff-at_ok}
use Rattle.std.proofs.lemmas.Str.Parse.{IsNumeralModel, numerals_by_value, tells_digits, parse_plain, digit_at}

-- a 0 stands alone, or another digit first
abbrev pub Begins : List ℕ → Type 0
Begins bs = (0 < length bs) × (48 ≤ get_or bs 0 0) × (get_or bs 0 0 ≤ 57) × (get_or bs 0 0 ≡ 48 → length bs ≡ 1)

own : IsNumeralModel (AllDigits 10) (digits_value 10)
own = numerals_by_value (AllDigits 10) tells_digits

-- a text that begins so is read as the number whose decimal it is
pub number_read : {E : Type 0} (bs : List ℕ) (r : Result ℕ E) → ParsesUnsigned 8 10 bs r → Begins bs → (n : ℕ) → (r ≡ Ok n) ↔ ((n < 256) × (bs ≡ decimal n))
number_read bs r h b n = (
  λ e. let p = OkIff-at_ok r _ _ n (parse_plain own 8 bs r h (omega (arith, b.1))) e in
      (omega (arith, p.0.2, p.1), sym (ap decimal p.1 ∙ decimal-digits_value own bs p.0.0 p.0.1 b.3 (omega (arith, p.0.2)))),
  λ p. parse-decimal 8 n bs r (omega (arith, p.0)) (omega (arith, p.0)) p.1 h,
)

-- and so begins every decimal
pub begins : (n : ℕ) → n < 64 → Begins (decimal n)
begins n h = ⊎_elim
    (λ l. let d = decimal_is_IsNumeral n (omega arith) in let f = first_decimal n l (omega arith) in
    (d.0.0, omega (arith, f), omega (arith, digit_at (decimal n) 0 d.0.1 d.0.0), λ e. absurd (omega (arith, f, e))))
    (λ l. subst Begins (sym (ap decimal (omega arith) ∙ decimal_digit 0 (omega arith))) (omega arith, omega arith, omega arith, λ e. refl))
    (cases_lt 0 n)
