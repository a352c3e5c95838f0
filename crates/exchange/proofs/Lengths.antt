-- How long the lines of the members are at most.
use Rattle.std.proofs.Common.{◌≡◌, ℕ, zero, suc, ◌+◌, ◌*◌, ◌/◌, ◌%◌, ◌^◌, ◌<◌, ◌≤◌, List, [], ◌∷◌, ◌++◌, length, decimal, ap, ◌∙◌, inl, inr, pow-suc, arith}
use Rattle.std.specs.List.{flat_map}
use Rattle.std.proofs.lemmas.Bool.{cases_lt, cases_Bool}
use Rattle.std.proofs.lemmas.Fmt.{decimal_digit, decimal_step}
use Rattle.std.proofs.lemmas.Grind.{flat_map-append}
use Rattle.std.proofs.lemmas.List.{append-nil, length-append}
use Rattle.codec.specs.Texts.{field, line}
use Rattle.merger.specs.Tables.{part}
use Rattle.merger.specs.declared.analysis.Analysis.{Analysis}
use Rattle.merger.proofs.Rounding.{meant_bounded}
use Rattle.exchange.specs.Texts.{Member, line_text}
use Rattle.exchange.specs.Listings.{class_in, states_in, members, text_of}
use Rattle.exchange.proofs.Lists.{few_states, states-open, states-shut}

digits_few : (k n : ℕ) → n < 2 ^ 64 → n < 10 ^ suc k → length (decimal n) ≤ suc k
digits_few zero n small low = omega (arith, ap length (decimal_digit n (omega arith)))
digits_few (suc k) n small low =
    elim (cases_lt n 10) [
      | inl l ↦ omega (arith, ap length (decimal_digit n l))
      | inr l ↦
          let fewer = digits_few k (n / 10) (omega arith) (omega (arith, pow-suc 10 (suc k))) in
          omega (arith, ap length (decimal_step n l small), length-append (decimal (n / 10)) ((48 + n % 10) ∷ []))
    ]

-- a line of a name and one number
length_line : (name : List ℕ) (n : ℕ) → length (line name (n ∷ [])) ≡ length name + length (decimal n) + 2
length_line name n =
    omega (arith, length-append (name ++ flat_map field (n ∷ [])) (10 ∷ []), length-append name (flat_map field (n ∷ [])), ap length (append-nil (field n)))

member_few : (s class : ℕ) → s < 128 → class < 128 → length (line_text (Member s class)) ≤ 8
member_few s class a b = omega (arith, length_line (decimal s) class, digits_few 2 s (omega arith) (omega arith), digits_few 2 class (omega arith) (omega arith))

members_few : (class : ℕ → ℕ) (n : ℕ) → n ≤ 128 → ((s : ℕ) → s < n → class s < 128) → length (text_of (members class n)) ≤ 8 * n
members_few class zero h low = omega arith
members_few class (suc n) h low =
    let last = Member n (class n) in
    let parted = ap length (flat_map-append line_text (members class n) (last ∷ [])) ∙ length-append (text_of (members class n)) (text_of (last ∷ [])) in
    omega (arith, parted, ap length (append-nil (line_text last)), member_few n (class n) (omega arith) (low n (omega arith)), members_few class n (omega arith) (λ s l. low s (omega arith)))

-- the classes of an analysis have small numbers
class_few : (a : Analysis) (s : ℕ) → s < states_in a → class_in a s < 128
class_few a s h = elim (cases_Bool a.opened) [
  | inl e ↦
      let B = meant_bounded a.found a.rounds (a.meant e) in
      let inside = B.parts s (omega (arith, states-open a e)) in
      let items = B.items in
      let few = a.rounds.partition.few in
      let most = a.rounds.partition.most in
      let item : part a.found s < a.rounds.partition.len = omega arith in
      omega (arith, a.rounds.partition.low (part a.found s) item)
  | inr e ↦ absurd (omega (arith, states-shut a e))
]

pub members_room : (a : Analysis) → length (text_of (members (class_in a) (states_in a))) ≤ 1024
members_room a =
    let few = few_states a in
    omega (arith, members_few (class_in a) (states_in a) few (class_few a))
