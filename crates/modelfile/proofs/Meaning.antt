-- The tables that load fills mean the model that the file denotes.
use Rattle.std.proofs.Common.{◌≡◌, ℕ, zero, suc, ◌+◌, ◌-◌, ◌<◌, ◌≤◌, ltb, List, [], ◌∷◌, ◌++◌, map, length, get_or, take, drop, sym, refl, ap, ◌∙◌, inl, inr, arith}
use mathlib.Core.Path.{fun_ext}
use Rattle.std.specs.List.{AllByRecursion}
use Rattle.std.proofs.ByRecursion.{All-get_or}
use Rattle.std.proofs.lemmas.List.{drop_at, drop_more, get_or_past, length-append, take-append-drop, take_at}
use Rattle.std.proofs.lemmas.Bool.{cases_lt, cond-true, cond-false, lt-ltb, le-ltb}
use Rattle.std.proofs.lemmas.Bool.Decides.{nat_tests}
use Rattle.kripke.specs.Kinds.{listed, listed_labels, listed_size, span, table_row, told}
use Rattle.kripke.specs.Models.{Kripke}
use Rattle.models.specs.Facts.{fact_words}
use Rattle.models.specs.declared.facts.Facts.{Facts}
use Rattle.codec.proofs.Joins.{joined-append, length_step}
use Rattle.modelfile.specs.Files.{RisingRow, Valid, targets_of, offsets_from, offsets_of, model_of}
use Rattle.codec.specs.Pieces.{placed}
use Rattle.modelfile.specs.Loads.{Tables, Filled, model_in}
use Rattle.modelfile.specs.declared.reading.Loaded.{Loaded}
use Rattle.modelfile.proofs.Filling.{length_offsets}
use Rattle.modelfile.proofs.Rise.{few_rise}

-- where row s begins
pub getD_offsets : (from : ℕ) (rows : List (List ℕ)) (s : ℕ) → s ≤ length rows → get_or (offsets_from from rows) s 0 ≡ from + length (targets_of (take s rows))
getD_offsets from [] zero h = omega arith
getD_offsets from [] (suc s) h = absurd (omega arith)
getD_offsets from (row ∷ rows) zero h = omega arith
getD_offsets from (row ∷ rows) (suc s) h = omega (arith, getD_offsets (from + length row) rows s (omega arith), length-append row (targets_of (take s rows)))

-- the targets, parted at row s
targets_parted : (rows : List (List ℕ)) (s : ℕ) → s < length rows → targets_of rows ≡ targets_of (take s rows) ++ (get_or rows s [] ++ targets_of (drop (s + 1) rows))
targets_parted rows s h =
    ap targets_of (sym (take-append-drop s rows))
    ∙ (joined-append (λ (r : List ℕ). r) (take s rows) (drop s rows)
    ∙ ap (λ rs. targets_of (take s rows) ++ targets_of rs) (drop_more rows s [] h))

span-row : (targets : List ℕ) (from to : ℕ) → from ≤ to → to ≤ length targets → to ≤ from + 4096 → span targets from to ≡ take (to - from) (drop from targets)
span-row targets from to a b c = grind (arith, nat_tests)

told_same : (n : ℕ) (row : List ℕ) → AllByRecursion (λ t. t < n) row → map (told n) row ≡ row
told_same n [] h = refl
told_same n (t ∷ row) h =
    let first : told n t ≡ t = cond-true (ltb t n) _ _ (lt-ltb t n h.0) in
    ap (λ u. u ∷ map (told n) row) first ∙ ap (λ us. t ∷ us) (told_same n row h.1)

-- the row of a state
row_told : (n : ℕ) (rows : List (List ℕ)) (s : ℕ) → n ≤ 4096 → length rows ≡ n → AllByRecursion (RisingRow n) rows → s < n → map (told n) (table_row n (offsets_of rows) (targets_of rows) s) ≡ get_or rows s []
row_told n rows s few each rising h =
    let row = get_or rows s [] in
    let inside : s < length rows = omega arith in
    let rises = All-get_or (RisingRow n) rows s [] inside rising in
    let short = few_rise n row rises in
    let parted = targets_parted rows s inside in
    let lengths : length (targets_of rows) ≡ length (targets_of (take s rows)) + (length row + length (targets_of (drop (s + 1) rows))) =
    ap length parted ∙ (length-append (targets_of (take s rows)) _ ∙ ap (λ n. length (targets_of (take s rows)) + n) (length-append row (targets_of (drop (s + 1) rows)))) in
    let from : get_or (offsets_of rows) s 0 ≡ length (targets_of (take s rows)) = omega (arith, getD_offsets 0 rows s (omega arith)) in
    let next : length (targets_of (take (s + 1) rows)) ≡ length (targets_of (take s rows)) + length row = length_step (λ (r : List ℕ). r) rows s [] inside in
    let to : get_or (offsets_of rows) (s + 1) 0 ≡ length (targets_of (take s rows)) + length row = omega (arith, getD_offsets 0 rows (s + 1) (omega arith)) in
    let wide : length (targets_of (take s rows)) + length row - length (targets_of (take s rows)) ≡ length row = omega arith in
    let is : table_row n (offsets_of rows) (targets_of rows) s ≡ row =
    cond-true (ltb s n) _ _ (lt-ltb s n h)
    ∙ (ap (λ i. span (targets_of rows) i (get_or (offsets_of rows) (s + 1) 0)) from
    ∙ (ap (λ j. span (targets_of rows) (length (targets_of (take s rows))) j) to
    ∙ (span-row (targets_of rows) (length (targets_of (take s rows))) (length (targets_of (take s rows)) + length row) (omega arith) (omega arith) (omega arith)
    ∙ (ap (λ k. take k (drop (length (targets_of (take s rows))) (targets_of rows))) wide
    ∙ (ap (λ ts. take (length row) (drop (length (targets_of (take s rows))) ts)) parted
    ∙ (ap (take (length row)) (drop_at (targets_of (take s rows)) _ (length (targets_of (take s rows))) refl)
    ∙ take_at row (targets_of (drop (s + 1) rows)) (length row) refl)))))) in
    ap (map (told n)) is ∙ told_same n row rises.below

-- and of a number that is no state
row_past : (n : ℕ) (rows : List (List ℕ)) (s : ℕ) → length rows ≡ n → n ≤ s → map (told n) (table_row n (offsets_of rows) (targets_of rows) s) ≡ get_or rows s []
row_past n rows s each h =
    ap (map (told n)) (cond-false (ltb s n) _ _ (le-ltb s n h)) ∙ sym (get_or_past rows s [] (omega arith))

size_told : (labels : List Facts) (rows : List (List ℕ)) → Valid labels rows → listed_size labels (offsets_of rows) ≡ length labels
size_told labels rows valid =
    let few = valid.sized.1 in
    let many : length (offsets_of rows) ≡ length labels + 1 = omega (arith, length_offsets 0 rows, valid.each) in
    grind (arith, nat_tests)

-- the tables mean the model
pub tables_mean : (labels : List Facts) (rows : List (List ℕ)) → Valid labels rows → listed 64 fact_words labels (offsets_of rows) (targets_of rows) ≡ model_of labels rows
tables_mean labels rows valid =
    let sized = size_told labels rows valid in
    let each = valid.each in
    let row_of : (s : ℕ) → map (told (length labels)) (table_row (length labels) (offsets_of rows) (targets_of rows) s) ≡ get_or rows s [] =
    λ s. elim (cases_lt s (length labels)) [
      | inl l ↦ row_told (length labels) rows s valid.sized.1 each valid.rising l
      | inr l ↦ row_past (length labels) rows s each l
    ] in
    let frame : ℕ → (ℕ → List ℕ) → Kripke = λ n row. record { frame = record { size = n; row = row }; labels = listed_labels 64 fact_words labels } in
    ap (λ n. frame n (λ s. map (told n) (table_row n (offsets_of rows) (targets_of rows) s))) sized
    ∙ ap (frame (length labels)) (fun_ext row_of)

front_is : {X : Type 0} (xs ys zs : List X) (n : ℕ) → zs ≡ placed xs 0 ys → n ≡ length ys → take n zs ≡ ys
front_is xs ys zs n e many = ap (take n) e ∙ take_at ys (drop (0 + length ys) xs) n (sym many)

-- and so do the fronts of longer tables
pub fronts_mean : (before after : Tables) (labels : List Facts) (rows : List (List ℕ)) (answer : Loaded) → Valid labels rows → Filled before after labels rows → answer.states ≡ length labels → answer.targets ≡ length (targets_of rows) → model_in after answer ≡ model_of labels rows
fronts_mean before after labels rows answer valid filled states targets =
    let offsets : answer.states + 1 ≡ length (offsets_of rows) = omega (arith, length_offsets 0 rows, valid.each) in
    ap (λ ls. listed 64 fact_words ls (take (answer.states + 1) after.offsets) (take answer.targets after.targets)) (front_is before.labels labels after.labels answer.states filled.labels_are states)
    ∙ (ap (λ os. listed 64 fact_words labels os (take answer.targets after.targets)) (front_is before.offsets (offsets_of rows) after.offsets (answer.states + 1) filled.offsets_are offsets)
    ∙ (ap (λ ts. listed 64 fact_words labels (offsets_of rows) ts) (front_is before.targets (targets_of rows) after.targets answer.targets filled.targets_are targets)
    ∙ tables_mean labels rows valid))
