-- What follows from what a file denotes: where its numbers stand, and how many there are.
use Rattle.std.proofs.Common.{◌≡◌, ℕ, ◌+◌, ◌^◌, ◌<◌, ◌≤◌, List, [], ◌∷◌, length, sym, ap, ◌∙◌, subst, zero-add, arith}
use Rattle.std.specs.List.{flat_map, AllByRecursion}
use Rattle.std.proofs.ByRecursion.{All-append, All-map, All-weaker}
use Rattle.std.proofs.lemmas.List.{length-append, take_all}
use Rattle.models.specs.declared.facts.Facts.{Facts}
use Rattle.codec.specs.Numbers.{codes, counted}
use Rattle.codec.proofs.Coding.{length-codes}
use Rattle.modelfile.specs.Files.{bits_of, numbers, longest, RisingRow, Valid, targets_of}
use Rattle.modelfile.specs.FirstFault.{Denotes}
use Rattle.modelfile.specs.Fills.{Sequence, RowsFit}
use Rattle.modelfile.specs.declared.scan.Room.{Room}
use Rattle.modelfile.proofs.Rise.{few_rise}
use Rattle.modelfile.proofs.Filling.{seq_split}

small_rows : (n : ℕ) → n ≤ 4096 → (rows : List (List ℕ)) → AllByRecursion (RisingRow n) rows → AllByRecursion (λ m. m < 2 ^ 64) (flat_map counted rows)
small_rows n few [] h = tt
small_rows n few (row ∷ rows) h =
    let short = few_rise n row h.0 in
    (omega arith, All-append (λ m. m < 2 ^ 64) row (flat_map counted rows) (All-weaker (λ t. t < n) (λ m. m < 2 ^ 64) (λ t l. omega arith) row h.0.below) (small_rows n few rows h.1))

-- each number of a file is below 2^64
small_numbers : (labels : List Facts) (rows : List (List ℕ)) → Valid labels rows → AllByRecursion (λ m. m < 2 ^ 64) (numbers labels rows)
small_numbers labels rows valid =
    let few = valid.sized.1 in (
      omega arith,
      All-append (λ m. m < 2 ^ 64) (bits_of labels) (flat_map counted rows)
          (All-map (λ m. m < 2 ^ 64) (λ (x : Facts). x.bits) labels valid.wide)
          (small_rows (length labels) few rows valid.rising),
    )

-- the targets are among the numbers
targets_count : (rows : List (List ℕ)) → length (targets_of rows) ≤ length (flat_map counted rows)
targets_count [] = omega arith
targets_count (row ∷ rows) = omega (arith, targets_count rows, length-append row (targets_of rows), length-append row (flat_map counted rows))

-- each target is a state
rows_below : (n m : ℕ) → n ≡ m → (rows : List (List ℕ)) → AllByRecursion (RisingRow n) rows → AllByRecursion (AllByRecursion (λ t. t < m)) rows
rows_below n m same rows h = All-weaker (RisingRow n) (AllByRecursion (λ t. t < m)) (λ row r. All-weaker (λ t. t < n) (λ t. t < m) (λ t l. omega arith) row r.below) rows h

module _ (t : Room) (file : List ℕ) (labels : List Facts) (rows : List (List ℕ)) (denotes : Denotes t file labels rows) where
  whole : Sequence file 0 (numbers labels rows) (length file)
  whole = record {
    on = omega arith;
    inside = omega arith;
    small = small_numbers labels rows denotes.valid;
    text = take_all (length file) file (omega arith) ∙ denotes.text;
  }

  parts : Sequence file 0 (length labels ∷ bits_of labels) (length (codes (length labels ∷ bits_of labels))) × Sequence file (length (codes (length labels ∷ bits_of labels))) (flat_map counted rows) (length file)
  parts =
      subst (λ j. Sequence file 0 (length labels ∷ bits_of labels) j × Sequence file j (flat_map counted rows) (length file)) (zero-add (length (codes (length labels ∷ bits_of labels))))
      (seq_split file 0 (length labels ∷ bits_of labels) (flat_map counted rows) (length file) whole)

  -- the labels stand behind N
  pub labels_stand : (at : ℕ) → at ≡ length (codes (length labels ∷ [])) → Sequence file at (bits_of labels) (length (codes (length labels ∷ bits_of labels)))
  labels_stand at place =
      subst (λ j. Sequence file j (bits_of labels) (length (codes (length labels ∷ bits_of labels)))) (zero-add (length (codes (length labels ∷ []))) ∙ sym place)
      (seq_split file 0 (length labels ∷ []) (bits_of labels) (length (codes (length labels ∷ bits_of labels))) parts.0).1

  -- and the rows behind the labels
  pub rows_stand : (at : ℕ) → at ≡ length (codes (length labels ∷ bits_of labels)) → Sequence file at (flat_map counted rows) (length file)
  rows_stand at place = subst (λ i. Sequence file i (flat_map counted rows) (length file)) (sym place) parts.1

  -- there are no more targets than bytes
  pub targets_few : length (targets_of rows) ≤ longest
  targets_few =
      let short = denotes.short in
      let bytes = ap length denotes.text in
      omega (arith, targets_count rows, length-codes (numbers labels rows), length-append (length labels ∷ bits_of labels) (flat_map counted rows))

  pub rows_fit : (at states : ℕ) → at ≡ length (codes (length labels ∷ bits_of labels)) → states ≡ length labels + 1 → RowsFit file at states t.targets
  rows_fit at states place many =
      let each = denotes.valid.each in
      record {
        rows = rows;
        next = length file;
        many = omega arith;
        stand = rows_stand at place;
        held = denotes.held.1;
        few = omega (arith, targets_few);
        sized = omega (arith, denotes.valid.sized.1);
        below = rows_below (length labels) (length rows) (sym each) rows denotes.valid.rising;
      }
