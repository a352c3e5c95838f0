-- Numbers that stand one after another are read again, and written into a table.
use Rattle.std.proofs.Common.{◌≡◌, ℕ, ◌+◌, ◌-◌, ◌^◌, ◌<◌, ◌≤◌, List, [], ◌∷◌, ◌++◌, map, length, get_or, take, drop, set, sym, refl, ap, ◌∙◌, subst, zero-add, arith}
use Rattle.std.specs.List.{flat_map, AllByRecursion}
use Rattle.std.proofs.ByRecursion.{All-get_or, All-weaker}
use Rattle.std.proofs.lemmas.List.{append_assoc, append-nil, drop_all, drop-drop, drop_more, length-append, length-drop, length-set, length-take, length-take-le, take_all, take_at, take_more, take-take}
use borrow.Rule.Slice.PartMut.{put_mid}
use Rattle.codec.specs.Numbers.{code, codes, counted}
use Rattle.codec.specs.Pieces.{placed}
use Rattle.codec.specs.Reading.{Stands}
use Rattle.codec.proofs.Coding.{code_some}
use Rattle.codec.proofs.Joins.{joined-append, joined_within}
use Rattle.codec.proofs.Standing.{one_stands}
use Rattle.codec.proofs.Places.{length-placed, placed-none, placed-set, placed_then}
use Rattle.modelfile.specs.Files.{targets_of, offsets_from, offsets_of}
use Rattle.modelfile.specs.Fills.{Sequence, RowFits, RowsFit}
use Rattle.modelfile.proofs.Walking.{targets_push}

all_left : (P : ℕ → Type 0) (xs ys : List ℕ) → AllByRecursion P (xs ++ ys) → AllByRecursion P xs
all_left P [] ys h = tt
all_left P (x ∷ xs) ys h = (h.0, all_left P xs ys h.1)

all_right : (P : ℕ → Type 0) (xs ys : List ℕ) → AllByRecursion P (xs ++ ys) → AllByRecursion P ys
all_right P [] ys h = h
all_right P (x ∷ xs) ys h = all_right P xs ys h.1

module _ (file : List ℕ) where
  -- how far a sequence reaches
  pub seq_end : (i : ℕ) (ns : List ℕ) (k : ℕ) → Sequence file i ns k → k ≡ i + length (codes ns)
  seq_end i ns k seq =
      let inside = seq.inside in
      let on = seq.on in
      let whole = sym (length-take-le k file inside) ∙ ap length seq.text in
      let front = length-take-le i file (omega arith) in
      omega (arith, length-append (take i file) (codes ns))

  -- two sequences, one behind the other
  pub seq_split : (i : ℕ) (ms ns : List ℕ) (k : ℕ) → Sequence file i (ms ++ ns) k → Sequence file i ms (i + length (codes ms)) × Sequence file (i + length (codes ms)) ns k
  seq_split i ms ns k seq =
      let inside = seq.inside in
      let on = seq.on in
      let end = seq_end i (ms ++ ns) k seq in
      let both = ap length (joined-append code ms ns) ∙ length-append (codes ms) (codes ns) in
      let front = length-take-le i file (omega arith) in
      let upto : i + length (codes ms) ≤ k = omega arith in
      let text : take k file ≡ (take i file ++ codes ms) ++ codes ns =
      seq.text ∙ (ap (λ bs. take i file ++ bs) (joined-append code ms ns) ∙ sym (append_assoc (take i file) (codes ms) (codes ns))) in
      let first : take (i + length (codes ms)) file ≡ take i file ++ codes ms =
      sym (take-take (i + length (codes ms)) k file upto)
      ∙ (ap (take (i + length (codes ms))) text
      ∙ take_at (take i file ++ codes ms) (codes ns) (i + length (codes ms)) (length-append (take i file) (codes ms) ∙ ap (λ n. n + length (codes ms)) front)) in (
        record { on = omega arith; inside = omega arith; small = all_left (λ n. n < 2 ^ 64) ms ns seq.small; text = first },
        record { on = upto; inside = inside; small = all_right (λ n. n < 2 ^ 64) ms ns seq.small; text = text ∙ ap (λ bs. bs ++ codes ns) (sym first) },
      )

  -- the first of the numbers, and those behind it
  pub seq_first : (i n : ℕ) (ns : List ℕ) (k : ℕ) → Sequence file i (n ∷ ns) k → Stands file i n (i + length (code n)) × Sequence file (i + length (code n)) ns k
  seq_first i n ns k seq =
      let some = code_some n in
      let alone : codes (n ∷ []) ≡ code n = append-nil (code n) in
      let parts = seq_split i (n ∷ []) ns k seq in
      let one = subst (λ bs. (take (i + length bs) file ≡ take i file ++ bs) × (i + length bs ≤ length file)) alone (parts.0.text, parts.0.inside) in (
        record { inside = one.1; on = omega arith; small = seq.small.0; text = one.0 },
        subst (λ bs. Sequence file (i + length bs) ns k) alone parts.1,
      )

  -- what a reader finds where a sequence begins, and where it goes on
  pub seq_known : (i n r mid : ℕ) (ns : List ℕ) (k : ℕ) → Sequence file i (n ∷ ns) k → ((m j : ℕ) → Stands file i m j → (m ≡ r) × (j ≡ mid)) → (n ≡ r) × Sequence file mid ns k
  seq_known i n r mid ns k seq known =
      let parts = seq_first i n ns k seq in
      let is = known n (i + length (code n)) parts.0 in
      (is.0, subst (λ j. Sequence file j ns k) is.1 parts.1)

  pub seq_none : (i k : ℕ) → Sequence file i [] k → i ≡ k
  seq_none i k seq = omega (arith, seq_end i [] k seq)

  -- so many numbers stand at a place in one way at most
  pub seq_same : (i : ℕ) (ms ns : List ℕ) (j k : ℕ) → length ms ≡ length ns → Sequence file i ms j → Sequence file i ns k → (ms ≡ ns) × (j ≡ k)
  seq_same i [] [] j k many a b = (refl, sym (seq_none i j a) ∙ seq_none i k b)
  seq_same i [] (n ∷ ns) j k many a b = absurd (omega arith)
  seq_same i (m ∷ ms) [] j k many a b = absurd (omega arith)
  seq_same i (m ∷ ms) (n ∷ ns) j k many a b =
      let p = seq_first i m ms j a in
      let q = seq_first i n ns k b in
      let first = one_stands file i m n _ _ p.0 q.0 in
      let rest = seq_same (i + length (code n)) ms ns j k (omega arith) (subst (λ x. Sequence file x ms j) first.1 p.1) q.1 in
      let head = first.0 in
      let tail = rest.0 in
      ((cc), rest.1)

-- numbers are read into a table of what they stand for: the first k are, and the others stand from a place on
abbrev pub FilledTo : {X : Type 0} → (X → ℕ) → (file : List ℕ) (before table xs : List X) (k at next : ℕ) → Type 0
FilledTo g file before table xs k at next = (table ≡ placed before 0 (take k xs)) × Sequence file at (map g (drop k xs)) next

module _ {X : Type 0} (g : X → ℕ) (make : ℕ → X) (back : (x : X) → make (g x) ≡ x) (file : List ℕ) (before xs : List X) (many : length xs ≡ length before) where
  pub fill_none : (i next : ℕ) → Sequence file i (map g xs) next → FilledTo g file before before xs 0 i next
  fill_none i next seq = (sym (placed-none before 0), seq)

  -- the number that a reader finds next is that of the next entry
  pub fill_next : (table : List X) (i k next r mid : ℕ) (d : X) → k < length xs → FilledTo g file before table xs k i next → ((m j : ℕ) → Stands file i m j → (m ≡ r) × (j ≡ mid)) →
      (g (get_or xs k d) ≡ r) × Sequence file mid (map g (drop (k + 1) xs)) next
  fill_next table i k next r mid d more filled known =
      seq_known file i (g (get_or xs k d)) r mid (map g (drop (k + 1) xs)) next (subst (λ ys. Sequence file i (map g ys) next) (drop_more xs k d more) filled.1) known

  pub fill_step : (table : List X) (i k next r mid : ℕ) (d : X) → k < length xs → FilledTo g file before table xs k i next → ((m j : ℕ) → Stands file i m j → (m ≡ r) × (j ≡ mid)) →
      FilledTo g file before (set table k (make r)) xs (k + 1) mid next
  fill_step table i k next r mid d more filled known =
      let here = fill_next table i k next r mid d more filled known in
      let taken : length (take k xs) ≡ k = length-take-le k xs (omega arith) in
      let made : make r ≡ get_or xs k d = ap make (sym here.0) ∙ back (get_or xs k d) in (
        placed-set before table (take k xs) 0 k (make r) (omega arith) filled.0 (omega arith)
            ∙ ap (placed before 0) (ap (λ x. take k xs ++ (x ∷ [])) made ∙ sym (take_more xs k d more)),
        here.1,
      )

  pub fill_all : (table : List X) (i k next : ℕ) → length xs ≤ k → FilledTo g file before table xs k i next → (i ≡ next) × (table ≡ xs)
  fill_all table i k next all filled = (
    seq_none file i next (subst (λ ys. Sequence file i (map g ys) next) (drop_all k xs all) filled.1),
    filled.0 ∙ (ap (placed before 0) (take_all k xs all) ∙ (ap (λ zs. xs ++ zs) (drop_all (0 + length xs) before (omega arith)) ∙ append-nil xs)),
  )

-- where each row ends
abbrev pub ends_from : ℕ → List (List ℕ) → List ℕ
ends_from from [] = []
ends_from from (row ∷ rows) = (from + length row) ∷ ends_from (from + length row) rows

pub ends_are : (from : ℕ) (rows : List (List ℕ)) → offsets_from from rows ≡ from ∷ ends_from from rows
ends_are from [] = refl
ends_are from (row ∷ rows) = ap (λ ns. from ∷ ns) (ends_are (from + length row) rows)

pub length-ends : (from : ℕ) (rows : List (List ℕ)) → length (ends_from from rows) ≡ length rows
length-ends from [] = refl
length-ends from (r ∷ rows) = omega (arith, length-ends (from + length r) rows)

pub length_offsets : (from : ℕ) (rows : List (List ℕ)) → length (offsets_from from rows) ≡ length rows + 1
length_offsets from rows = ap length (ends_are from rows) ∙ omega (arith, length-ends from rows)

-- one row more: it ends behind its targets
pub ends-push : (from : ℕ) (rows : List (List ℕ)) (row : List ℕ) → ends_from from (rows ++ (row ∷ [])) ≡ ends_from from rows ++ ((from + length (targets_of (rows ++ (row ∷ [])))) ∷ [])
ends-push from [] row = ap (λ n. (from + n) ∷ []) (ap length (sym (append-nil row)))
ends-push from (r ∷ rows) row =
    let sum : from + length r + length (targets_of (rows ++ (row ∷ []))) ≡ from + length (r ++ targets_of (rows ++ (row ∷ []))) =
    omega (arith, length-append r (targets_of (rows ++ (row ∷ [])))) in
    ap (λ ns. (from + length r) ∷ ns) (ends-push (from + length r) rows row ∙ ap (λ n. ends_from (from + length r) rows ++ (n ∷ [])) sum)

-- the first k of the rows are read into the tables, and the others stand from a place on
pub record RowsFilled (file ends_were ends targets_were targets : List ℕ) (rows : List (List ℕ)) (k count at next : ℕ) : Type 0 where
  pub counts : count ≡ length (targets_of (take k rows))
  pub ends_are : ends ≡ placed ends_were 0 (ends_from 0 (take k rows))
  pub targets_are : targets ≡ placed targets_were 0 (targets_of (take k rows))
  pub rest : Sequence file at (flat_map counted (drop k rows)) next

-- a part that is written anew
pub put_placed : {X : Type 0} → (xs ys : List X) (i k : ℕ) → length ys ≡ k → put_mid i k xs ys ≡ placed xs i ys
put_placed xs ys i k long = ap (λ zs. take i xs ++ (ys ++ zs)) (drop-drop k i xs ∙ ap (λ n. drop (i + n) xs) (sym long))

-- the front of a table that is written anew
pub front_placed : {X : Type 0} → (before out xs : List X) (n : ℕ) → out ≡ xs → n ≡ length xs → out ++ drop n before ≡ placed before 0 xs
front_placed before out xs n is many = ap (λ zs. zs ++ drop n before) is ∙ ap (λ k. xs ++ drop k before) (many ∙ sym (zero-add (length xs)))

-- no row is read
pub rows_none : (file ends targets : List ℕ) (rows : List (List ℕ)) (at next : ℕ) → Sequence file at (flat_map counted rows) next → RowsFilled file ends ends targets targets rows 0 0 at next
rows_none file ends targets rows at next seq = record {
  counts = refl;
  ends_are = sym (placed-none ends 0);
  targets_are = sym (placed-none targets 0);
  rest = seq;
}

-- the next row, of which the degree is read
pub record RowNext (file : List ℕ) (rows : List (List ℕ)) (k count degree at next : ℕ) : Type 0 where
  pub many : length (get_or rows k []) ≡ degree
  pub held : count + degree ≤ length (targets_of rows)
  pub stands : Sequence file at (get_or rows k []) (at + length (codes (get_or rows k [])))
  pub rest : Sequence file (at + length (codes (get_or rows k []))) (flat_map counted (drop (k + 1) rows)) next

module _ (file ends_were ends targets_were targets : List ℕ) (rows : List (List ℕ)) (k count at next : ℕ) (filled : RowsFilled file ends_were ends targets_were targets rows k count at next) (more : k < length rows) where
  pub row_next : (degree mid : ℕ) → ((m j : ℕ) → Stands file at m j → (m ≡ degree) × (j ≡ mid)) → RowNext file rows k count degree mid next
  row_next degree mid known =
      let row = get_or rows k [] in
      let here = seq_known file at (length row) degree mid (row ++ flat_map counted (drop (k + 1) rows)) next (subst (λ rs. Sequence file at (flat_map counted rs) next) (drop_more rows k [] more) filled.rest) known in
      let parts = seq_split file mid row (flat_map counted (drop (k + 1) rows)) next here.1 in
      let counts = filled.counts in
      record { many = here.0; held = omega (arith, joined_within (λ (r : List ℕ). r) rows k [] more, here.0); stands = parts.0; rest = parts.1 }

  pub rows_step : (degree mid end at' : ℕ) (out : List ℕ) → length rows ≡ length ends_were → count + degree ≤ length targets → ((m j : ℕ) → Stands file at m j → (m ≡ degree) × (j ≡ mid)) → end ≡ count + degree →
      ((row : List ℕ) (j : ℕ) → length row ≡ length (take (end - count) (drop count targets)) → Sequence file mid row j → (at' ≡ j) × (out ≡ row)) →
      RowsFilled file ends_were (set ends k end) targets_were (put_mid count (end - count) targets out) rows (k + 1) end at' next
  rows_step degree mid end at' out room held known ends_at filled_row =
      let row_is = row_next degree mid known in
      let row = get_or rows k [] in
      let many = row_is.many in
      let front = take_more rows k [] more in
      let counts = filled.counts in
      let part : length (take (end - count) (drop count targets)) ≡ degree = omega (arith, length-take (end - count) (drop count targets), length-drop count targets) in
      let is = filled_row row _ (many ∙ sym part) row_is.stands in
      let flat : targets_of (take (k + 1) rows) ≡ targets_of (take k rows) ++ row = ap targets_of front ∙ sym (targets_push (take k rows) row) in
      let so_many : end ≡ length (targets_of (take (k + 1) rows)) = omega (arith, ap length flat, length-append (targets_of (take k rows)) row) in
      let long : length (ends_from 0 (take k rows)) ≡ k = length-ends 0 (take k rows) ∙ length-take-le k rows (omega arith) in
      let pushed : ends_from 0 (take (k + 1) rows) ≡ ends_from 0 (take k rows) ++ (end ∷ []) =
      ap (ends_from 0) front ∙ (ends-push 0 (take k rows) row
      ∙ ap (λ n. ends_from 0 (take k rows) ++ (n ∷ [])) (zero-add _ ∙ (ap (λ rs. length (targets_of rs)) (sym front) ∙ sym so_many))) in
      let wide : length out ≡ end - count = omega (arith, ap length is.1) in
      record {
        counts = so_many;
        ends_are = placed-set ends_were ends (ends_from 0 (take k rows)) 0 k end (omega arith) filled.ends_are (omega arith) ∙ ap (placed ends_were 0) (sym pushed);
        targets_are =
            placed_then targets_were targets _ (targets_of (take k rows)) row 0 count (omega arith) filled.targets_are (omega arith)
            (put_placed targets out count (end - count) wide ∙ ap (placed targets count) is.1)
            ∙ ap (placed targets_were 0) (sym flat);
        rest = subst (λ j. Sequence file j (flat_map counted (drop (k + 1) rows)) next) (sym is.0) row_is.rest;
      }

-- there is one end less than there are offsets
pub ends_many : (offsets : List ℕ) → 0 < length offsets → length (take (length (set offsets 0 0) - 1) (drop 1 (set offsets 0 0))) + 1 ≡ length offsets
ends_many offsets some =
    omega (arith, length-take (length (set offsets 0 0) - 1) (drop 1 (set offsets 0 0)), length-drop 1 (set offsets 0 0), length-set offsets 0 0)

-- the tables hold the next row
pub record RowThere (file targets : List ℕ) (count degree at states : ℕ) : Type 0 where
  pub held : count + degree ≤ length targets
  pub few : count + degree < 2 ^ 32
  pub fits : RowFits file at (length (take (count + degree - count) (drop count targets))) states

pub row_there : (file offsets ends targets_were targets : List ℕ) (from k count degree at mid : ℕ) → RowsFit file from (length offsets) (length targets_were) →
    ((rows : List (List ℕ)) (next : ℕ) → length rows ≡ length (take (length (set offsets 0 0) - 1) (drop 1 (set offsets 0 0))) → Sequence file from (flat_map counted rows) next →
    RowsFilled file (take (length (set offsets 0 0) - 1) (drop 1 (set offsets 0 0))) ends targets_were targets rows k count at next) →
    k < length (take (length (set offsets 0 0) - 1) (drop 1 (set offsets 0 0))) → ((m j : ℕ) → Stands file at m j → (m ≡ degree) × (j ≡ mid)) →
    RowThere file targets count degree mid (length offsets - 1)
row_there file offsets ends targets_were targets from k count degree at mid fit filled test known =
    let rows = fit.rows in
    let many = fit.many in
    let so_many = ends_many offsets (omega arith) in
    let more : k < length rows = omega arith in
    let filled' = filled rows fit.next (omega arith) fit.stand in
    let is = row_next file _ ends targets_were targets rows k count at fit.next filled' more degree mid known in
    let held = fit.held in
    let few = fit.few in
    let sized = fit.sized in
    let fits = is.held in
    let counts = filled'.counts in
    let long : length targets ≡ length targets_were = ap length filled'.targets_are ∙ length-placed targets_were (targets_of (take k rows)) 0 (omega arith) in
    let degree_is = is.many in
    record {
      held = omega arith;
      few = omega arith;
      fits = record {
        row = get_or rows k [];
        next = _;
        many = omega (arith, length-take (count + degree - count) (drop count targets), length-drop count targets);
        stands = is.stands;
        sized = omega arith;
        below = All-weaker (λ t. t < length rows) (λ t. t < length offsets - 1) (λ t l. omega arith) (get_or rows k []) (All-get_or (AllByRecursion (λ t. t < length rows)) rows k [] more fit.below);
      };
    }

-- all rows are read: the offsets are 0 and where each row ends
pub rows_all : (file offsets ends targets_were targets : List ℕ) (rows : List (List ℕ)) (k n count at next : ℕ) → length rows + 1 ≡ length offsets → length rows ≤ k → n + 1 ≡ length offsets →
    RowsFilled file (take n (drop 1 (set offsets 0 0))) ends targets_were targets rows k count at next →
    (put_mid 1 n (set offsets 0 0) ends ≡ offsets_of rows) × (targets ≡ placed targets_were 0 (targets_of rows))
rows_all file [] ends targets_were targets rows k n count at next many all whole filled = absurd (omega arith)
rows_all file (o ∷ os) ends targets_were targets rows k n count at next many all whole filled =
    let known : ends ≡ placed (take n (drop 1 (set (o ∷ os) 0 0))) 0 (ends_from 0 rows) =
    filled.ends_are ∙ ap (λ rs. placed (take n (drop 1 (set (o ∷ os) 0 0))) 0 (ends_from 0 rs)) (take_all k rows all) in
    let long = length-ends 0 rows in
    let behind : length (take n (drop 1 (set (o ∷ os) 0 0))) ≤ 0 + length (ends_from 0 rows) = omega (arith, length-take n os) in
    let are : ends ≡ ends_from 0 rows =
    known ∙ (ap (λ zs. ends_from 0 rows ++ zs) (drop_all (0 + length (ends_from 0 rows)) (take n (drop 1 (set (o ∷ os) 0 0))) behind) ∙ append-nil (ends_from 0 rows)) in (
      put_placed (set (o ∷ os) 0 0) ends 1 n (ap length are ∙ omega arith)
          ∙ (ap (placed (set (o ∷ os) 0 0) 1) are
          ∙ (ap (λ zs. 0 ∷ (ends_from 0 rows ++ zs)) (drop_all (1 + length (ends_from 0 rows)) (set (o ∷ os) 0 0) (omega arith))
          ∙ (ap (λ zs. 0 ∷ zs) (append-nil (ends_from 0 rows)) ∙ sym (ends_are 0 rows)))),
      filled.targets_are ∙ ap (λ rs. placed targets_were 0 (targets_of rs)) (take_all k rows all),
    )
