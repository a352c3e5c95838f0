-- Rows that rise, one target more at a time.
use Rattle.std.proofs.Common.{◌≡◌, ℕ, zero, suc, ◌+◌, ◌<◌, ◌≤◌, List, [], ◌∷◌, ◌++◌, length, get_or, sym, refl, inl, inr, arith}
use Rattle.std.proofs.ByRecursion.{All-get_or}
use Rattle.std.proofs.lemmas.List.{get_or_append_left, get_or_push, length_push}
use Rattle.std.proofs.lemmas.Bool.{cases_lt}
use Rattle.kripke.specs.Models.{nowhere}
use Rattle.kripke.specs.Reduced.{Rising}
use Rattle.modelfile.specs.Files.{RisingRow}
use Rattle.modelfile.specs.Walks.{Lowest}

pub rising_front : (ts : List ℕ) (t : ℕ) → Rising (ts ++ (t ∷ [])) → Rising ts
rising_front ts t r k h =
    let long = length_push ts t in
    let low : k < length ts = omega arith in
    let step = r k (omega arith) in
    let first = get_or_append_left ts (t ∷ []) nowhere k low in
    let second = get_or_append_left ts (t ∷ []) nowhere (suc k) h in
    omega arith

-- the last two targets rise
pub rising_end : (ts : List ℕ) (t u : ℕ) → Rising ((ts ++ (t ∷ [])) ++ (u ∷ [])) → t < u
rising_end ts t u r =
    let inner = length_push ts t in
    let long = length_push (ts ++ (t ∷ [])) u in
    let step = r (length ts) (omega arith) in
    let first = get_or_append_left (ts ++ (t ∷ [])) (u ∷ []) nowhere (length ts) (omega arith) in
    let at = get_or_push ts t nowhere (length ts) refl in
    let last = get_or_push (ts ++ (t ∷ [])) u nowhere (suc (length ts)) (omega arith) in
    omega arith

-- one target more, above the last
pub rising_push : (ts : List ℕ) (t u : ℕ) → Rising (ts ++ (t ∷ [])) → t < u → Rising ((ts ++ (t ∷ [])) ++ (u ∷ []))
rising_push ts t u r above k h =
    let inner = length_push ts t in
    let long = length_push (ts ++ (t ∷ [])) u in
    let low : k < length (ts ++ (t ∷ [])) = omega arith in
    let first = get_or_append_left (ts ++ (t ∷ [])) (u ∷ []) nowhere k low in
    elim (cases_lt (suc k) (length (ts ++ (t ∷ [])))) [
      | inl l ↦
          let step = r k l in
          let second = get_or_append_left (ts ++ (t ∷ [])) (u ∷ []) nowhere (suc k) l in
          omega arith
      | inr l ↦
          let same : k ≡ length ts = omega arith in
          let at = get_or_push ts t nowhere k (sym same) in
          let last = get_or_push (ts ++ (t ∷ [])) u nowhere (suc k) (omega arith) in
          omega arith
    ]

pub lowest_more : (ts : List ℕ) (t : ℕ) → Rising (ts ++ (t ∷ [])) → Lowest (ts ++ (t ∷ [])) (t + 1)
lowest_more ts t r u = (λ h. rising_push ts t u r (omega arith), λ q. omega (arith, rising_end ts t u q))

-- target k of a row that rises is k at least
climbs : (row : List ℕ) → Rising row → (k : ℕ) → k < length row → k ≤ get_or row k nowhere
climbs row r zero h = omega arith
climbs row r (suc k) h = omega (arith, climbs row r k (omega arith), r k h)

-- so a row that rises below n has n targets at most
pub few_rise : (n : ℕ) (row : List ℕ) → RisingRow n row → length row ≤ n
few_rise n row r =
    elim (cases_lt n (length row)) [
      | inl l ↦
          let high = climbs row r.rises n l in
          let low = All-get_or (λ t. t < n) row n nowhere l r.below in
          absurd (omega arith)
      | inr l ↦ l
    ]
