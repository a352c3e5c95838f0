-- Rows of which each target is one byte.
use Rattle.std.proofs.Common.{◌≡◌, ℕ, ◌+◌, ◌-◌, ◌<◌, ◌≤◌, List, [], ◌∷◌, ◌++◌, length, take, drop, sym, refl, ap, ◌∙◌, subst, arith}
use Rattle.std.specs.List.{AllByRecursion}
use Rattle.std.proofs.ByRecursion.{All-push, All-weaker}
use Rattle.std.proofs.Math.Seq.{take-add}
use Rattle.std.proofs.lemmas.List.{append_assoc, append_cancel_left, length-append, length-drop, length_push, length-take-le, nil_from_length}
use Rattle.codec.specs.Numbers.{code, codes}
use Rattle.codec.proofs.Coding.{code_last}
use Rattle.codec.proofs.Joins.{joined-append}
use Rattle.modelfile.specs.Files.{numbers, RisingRow, targets_of}
use Rattle.modelfile.specs.Fills.{Sequence, RowFits}
use Rattle.modelfile.specs.Walks.{RowsRead, TargetsRead, ShortRow}
use Rattle.modelfile.specs.declared.scan.Source.{Source}
use Rattle.modelfile.specs.declared.scan.Cursor.{Cursor}
use Rattle.modelfile.proofs.Walking.{numbers_push, targets_push}
use Rattle.modelfile.proofs.Filling.{seq_end, seq_same}

-- numbers below 80 are their own bytes
pub own_bytes : (ts : List ℕ) → AllByRecursion (λ t. t < 128) ts → codes ts ≡ ts
own_bytes [] h = refl
own_bytes (t ∷ ts) h = ap (λ bs. bs ++ codes ts) (code_last t h.0) ∙ ap (λ us. t ∷ us) (own_bytes ts h.1)

-- a row whose targets are all among the first 4,096 states
pub row_wide : (file : List ℕ) (at room states : ℕ) → RowFits file at room states → RowFits file at room 4096
row_wide file at room states fits = record {
  row = fits.row;
  next = fits.next;
  many = fits.many;
  stands = fits.stands;
  sized = omega arith;
  below = All-weaker (λ t. t < states) (λ t. t < 4096) (λ t l. let sized = fits.sized in omega arith) fits.row fits.below;
}

-- of few states, a row that stands at a place is the next bytes
module _ (file : List ℕ) (at room states : ℕ) (fits : RowFits file at room states) (few : states ≤ 128) where
  own : codes fits.row ≡ fits.row
  own = own_bytes fits.row (All-weaker (λ t. t < states) (λ t. t < 128) (λ t l. omega arith) fits.row fits.below)

  ends : fits.next ≡ at + room
  ends = omega (arith, seq_end file at fits.row fits.next fits.stands, ap length own, fits.many)

  pub row_inside : at + room ≤ length file
  row_inside = let inside = fits.stands.inside in omega (arith, ends)

  bytes : take room (drop at file) ≡ fits.row
  bytes =
      let inside = fits.stands.inside in
      let front : length (take at file) ≡ at = length-take-le at file (omega (arith, ends)) in
      append_cancel_left (take at file) (take room (drop at file)) fits.row
      (sym (take-add at room file) ∙ (ap (λ i. take i file) (sym ends) ∙ (fits.stands.text ∙ ap (λ bs. take at file ++ bs) own)))

  -- and so it is any numbers that stand there
  pub row_copied : (out ts : List ℕ) (next : ℕ) → out ≡ take (at + room - at) (drop at file) → length ts ≡ room → Sequence file at ts next → (at + room ≡ next) × (out ≡ ts)
  row_copied out ts next is many seq =
      let same = seq_same file at fits.row ts fits.next next (fits.many ∙ sym many) fits.stands seq in
      (sym ends ∙ same.1, is ∙ (ap (λ k. take k (drop at file)) (omega arith) ∙ (bytes ∙ same.0)))

module _ (f : Source) (r q : Cursor) (count degree : ℕ) (read : TargetsRead f r count degree 0 0) (short : ShortRow f r degree) where
  row : List ℕ
  row = take degree (drop r.at f.file.now)

  whole : length row ≡ degree
  unfolding row
  whole = let h = short.inside in length-take-le degree (drop r.at f.file.now) (omega (arith, length-drop r.at f.file.now))

  -- the bytes up to the row, and those of the row
  text : take (r.at + degree) f.file.now ≡ codes (numbers read.labels (read.rows ++ (row ∷ [])))
  unfolding row
  text =
      let none : read.targets ≡ [] = nil_from_length read.targets read.given in
      let own : codes row ≡ row = own_bytes row (All-weaker (λ t. t < f.states) (λ t. t < 128) (λ t l. let few = short.few in omega arith) row short.rising.below) in
      let before = numbers read.labels read.rows in
      take-add r.at degree f.file.now
      ∙ (ap (λ bs. bs ++ row) (read.reached.text ∙ ap (λ ts. codes (before ++ (degree ∷ ts))) none)
      ∙ (ap (λ bs. codes (before ++ (degree ∷ [])) ++ bs) (sym own)
      ∙ (sym (joined-append code (before ++ (degree ∷ [])) row)
      ∙ ap codes (append_assoc before (degree ∷ []) row ∙ (ap (λ d. before ++ (d ∷ row)) (sym whole) ∙ numbers_push read.labels read.rows row)))))

  -- the row is read whole
  pub row_whole : q.targets ≡ r.targets + degree → q.at ≡ r.at + degree → RowsRead f q (count + 1)
  unfolding row
  row_whole targets at =
      let sized = read.sized in
      let many = read.many in
      let counted' = read.counted in
      let given' = read.given in
      let inside = short.inside in
      let held = short.held in
      let right = read.reached.right in
      let next = right.next in
      let so_many = whole in
      let long = length_push read.rows row in
      let flat : length (targets_of (read.rows ++ (row ∷ []))) ≡ length (targets_of read.rows) + length row =
      ap length (sym (targets_push read.rows row)) ∙ length-append (targets_of read.rows) row in
      let rising : RisingRow (length read.labels) row = subst (λ n. RisingRow n row) (sym sized) short.rising in
      record {
        labels = read.labels;
        rows = read.rows ++ (row ∷ []);
        sized = sized;
        many = omega arith;
        counted = omega arith;
        reached = record {
          inside = omega arith;
          right = record {
            labelled = right.complete.labelled;
            few = omega arith;
            rising = All-push (RisingRow (length read.labels)) read.rows row right.complete.rising rising;
            held = omega arith;
          };
          text = ap (λ i. take i f.file.now) at ∙ text;
        };
      }
