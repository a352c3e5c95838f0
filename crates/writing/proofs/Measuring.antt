-- The rows of a model, one state more at a time.
use Rattle.std.proofs.Common.{◌≡◌, ℕ, ◌+◌, ◌-◌, ◌<◌, ◌≤◌, List, [], ◌∷◌, ◌++◌, length, get_or, take, sym, ap, ◌∙◌, subst, zero-add, arith}
use Rattle.std.specs.List.{AllByRecursion}
use Rattle.std.proofs.lemmas.List.FromFn.{length-map-range_with_len, get_or-map-range_with_len}
use Rattle.std.proofs.ByRecursion.{All-push}
use Rattle.std.proofs.lemmas.List.{append-nil, drop_all, length-append, take_all, take_more}
use Rattle.kripke.specs.Models.{Kripke}
use Rattle.models.specs.declared.facts.Facts.{Facts}
use Rattle.codec.specs.Numbers.{code, codes, counted}
use Rattle.codec.specs.Pieces.{placed}
use Rattle.codec.proofs.Joins.{joined-append}
use Rattle.modelfile.specs.Files.{file_of, numbers, Sized, RisingRow}
use Rattle.modelfile.proofs.Walking.{numbers_push}
use Rattle.writing.specs.Saves.{rows_of, Labels, SaveFault, Measured}
use Rattle.writing.specs.Savings.{RowRefused}
use Rattle.writing.specs.declared.protocol.WriteFault.{WriteFault}
use Rattle.writing.specs.declared.protocol.WriteFault.TheVariants.{BadSize, NoSpace, AllGiven, Missing, BadRow}

pub length_rows : (M : Kripke) → length (rows_of M) ≡ M.frame.size
length_rows M = length-map-range_with_len M.frame.row 0 M.frame.size

pub get_d_rows : (M : Kripke) (s : ℕ) → s < M.frame.size → get_or (rows_of M) s [] ≡ M.frame.row s
get_d_rows M s h = get_or-map-range_with_len M.frame.row 0 M.frame.size s s [] h (zero-add s)

pub rows_next : (M : Kripke) (s : ℕ) → s < M.frame.size → take (s + 1) (rows_of M) ≡ take s (rows_of M) ++ (M.frame.row s ∷ [])
rows_next M s h = take_more (rows_of M) s [] (omega (arith, length_rows M)) ∙ ap (λ r. take s (rows_of M) ++ (r ∷ [])) (get_d_rows M s h)

-- the file of one row more
pub file_push : (labels : List Facts) (rows : List (List ℕ)) (row : List ℕ) → file_of labels rows ++ codes (counted row) ≡ file_of labels (rows ++ (row ∷ []))
file_push labels rows row = sym (joined-append code (numbers labels rows) (counted row)) ∙ ap codes (numbers_push labels rows row)

pub file_next : (M : Kripke) (labels : List Facts) (s : ℕ) → s < M.frame.size → file_of labels (take s (rows_of M)) ++ codes (counted (M.frame.row s)) ≡ file_of labels (take (s + 1) (rows_of M))
file_next M labels s h = file_push labels (take s (rows_of M)) (M.frame.row s) ∙ ap (file_of labels) (sym (rows_next M s h))

pub file_longer : (M : Kripke) (labels : List Facts) (s : ℕ) → s < M.frame.size → length (file_of labels (take (s + 1) (rows_of M))) ≡ length (file_of labels (take s (rows_of M))) + length (codes (counted (M.frame.row s)))
file_longer M labels s h = ap length (sym (file_next M labels s h)) ∙ length-append (file_of labels (take s (rows_of M))) (codes (counted (M.frame.row s)))

-- a table that is just as long as the row that is put into it
pub whole_row : (before table row : List ℕ) (k : ℕ) → length before ≡ length row → length row ≤ k → table ≡ placed before 0 (take k row) → table ≡ row
whole_row before table row k long all e =
    e ∙ (ap (placed before 0) (take_all k row all) ∙ (ap (λ ns. row ++ ns) (drop_all (0 + length row) before (omega arith)) ∙ append-nil row))

-- all labels and the first rows fit
pub record RowsMeasured (M : Kripke) (space count len : ℕ) : Type 0 where
  pub labels : List Facts
  pub are : Labels M labels
  pub rising : AllByRecursion (RisingRow M.frame.size) (take count (rows_of M))
  pub long : len ≡ length (file_of labels (take count (rows_of M)))
  pub fits : len ≤ space

pub measured_more : (M : Kripke) (space count len wide : ℕ) → count < M.frame.size → RowsMeasured M space count len → RisingRow M.frame.size (M.frame.row count) → wide ≡ length (codes (counted (M.frame.row count))) → wide ≤ space - len → RowsMeasured M space (count + 1) (len + wide)
measured_more M space count len wide h old rises e left =
    let long = old.long in
    let fits = old.fits in
    record {
      labels = old.labels;
      are = old.are;
      rising = subst (AllByRecursion (RisingRow M.frame.size)) (sym (rows_next M count h)) (All-push (RisingRow M.frame.size) (take count (rows_of M)) (M.frame.row count) old.rising rises);
      long = omega (arith, file_longer M old.labels count h);
      fits = omega arith;
    }

-- the next row is refused
pub row_refused_lem : (M : Kripke) (space count len : ℕ) (fault : WriteFault) → Sized M.frame.size → count < M.frame.size → RowsMeasured M space count len → RowRefused (M.frame.row count) M.frame.size (space - len) fault → SaveFault M space fault
row_refused_lem M space count len BadSize sized h old r = absurd r
row_refused_lem M space count len NoSpace sized h old r =
    let long = old.long in
    let fits = old.fits in
    record {
      sized = sized;
      labels = old.labels;
      are = old.are;
      upto = count + 1;
      rising = subst (AllByRecursion (RisingRow M.frame.size)) (sym (rows_next M count h)) (All-push (RisingRow M.frame.size) (take count (rows_of M)) (M.frame.row count) old.rising r.0);
      over = omega (arith, r.1, file_longer M old.labels count h);
    }
row_refused_lem M space count len AllGiven sized h old r = absurd r
row_refused_lem M space count len Missing sized h old r = absurd r
row_refused_lem M space count len BadRow sized h old r =
    let long = old.long in
    let fits = old.fits in
    record { sized = sized; labels = old.labels; are = old.are; upto = count; state = h; rising = old.rising; fits = omega arith; falls = r }

pub measured_all : (M : Kripke) (space count len : ℕ) → Sized M.frame.size → M.frame.size ≤ count → RowsMeasured M space count len → Measured M space len
measured_all M space count len sized all old =
    let full = take_all count (rows_of M) (omega (arith, length_rows M)) in
    record {
      sized = sized;
      labels = old.labels;
      are = old.are;
      rising = subst (AllByRecursion (RisingRow M.frame.size)) full old.rising;
      long = old.long ∙ ap (λ rs. length (file_of old.labels rs)) full;
      fits = old.fits;
    }
