-- What is known of the moves of a row that are still to come.
use Rattle.std.proofs.Common.{◌≡◌, ℕ, ◌+◌, ◌<◌, ◌≤◌, List, [], ◌∷◌, map, length, get_or, drop, Some, sym, ap, ◌∙◌, subst, arith}
use Rattle.std.proofs.lemmas.List.{drop_more, length-drop, length-map, get_or-map}
use Rattle.kripke.specs.Models.{nowhere, move}
use Rattle.kripke.specs.Kinds.{told}
use Rattle.kripke.proofs.Rows.{move_some}

-- after k moves the next one is move k
pub move_next : (row : List ℕ) (k t : ℕ) (rest : List ℕ) → drop k row ≡ t ∷ rest → (k < length row) × (get_or row k nowhere ≡ t) × (rest ≡ drop (k + 1) row)
move_next row k t rest e =
    let some : k < length row = omega (arith, ap length e, length-drop k row) in
    let same : get_or row k nowhere ∷ drop (k + 1) row ≡ t ∷ rest = sym (drop_more row k nowhere some) ∙ e in
    (some, cc, cc)

-- where none is to come, the row has been read to its end
pub move_none : (row : List ℕ) (k : ℕ) → drop k row ≡ [] → length row ≤ k
move_none row k e = omega (arith, ap length e, length-drop k row)

-- a row begins after k moves with move k, where it has one
begins : (row : List ℕ) (k t : ℕ) → k < length row → get_or row k nowhere ≡ t → drop k row ≡ t ∷ drop (k + 1) row
begins row k t some is =
    let d : drop k row ≡ get_or row k nowhere ∷ drop (k + 1) row = drop_more row k nowhere some in
    d ∙ ap (λ (x : ℕ). x ∷ drop (k + 1) row) is

pub first_of : (row : List ℕ) (k t : ℕ) → Some t ≡ move row k → drop k row ≡ t ∷ drop (k + 1) row
first_of row k t e = let m = move_some row k t e in begins row k t m.0 m.1

-- the same of a row that a slice tells
pub first_told : (row slice : List ℕ) (n k t : ℕ) → row ≡ map (told n) slice → k < length slice → told n (get_or slice k 0) ≡ t → drop k row ≡ t ∷ drop (k + 1) row
first_told row slice n k t same some is =
    let long : k < length (map (told n) slice) = simp length-map some in
    begins row k t (subst (λ (r : List ℕ). k < length r) (sym same) long) (ap (λ (r : List ℕ). get_or r k nowhere) same ∙ get_or-map (told n) slice k 0 nowhere some ∙ is)
