-- The sets and the rows of a model that was measured are given, and none is refused.
use Rattle.std.proofs.Common.{◌≡◌, ℕ, ◌+◌, ◌<◌, ◌≤◌, List, [], ◌∷◌, ◌++◌, length, take, drop, sym, refl, ap, ◌∙◌, subst, zero-add, arith}
use Rattle.std.specs.List.{flat_map}
use Rattle.std.proofs.ByRecursion.{All-get_or}
use Rattle.std.proofs.lemmas.List.{flat_map_more, length-append, length-take-le, map_push, take_all, take-append-drop, take-map}
use Rattle.kripke.specs.Models.{Kripke, words_at}
use Rattle.kripke.specs.Words.{SameWords}
use Rattle.models.specs.Facts.{fact_words}
use Rattle.models.specs.declared.facts.Facts.{Facts}
use Rattle.codec.specs.Numbers.{code, codes, counted}
use Rattle.codec.specs.Pieces.{placed}
use Rattle.codec.proofs.Joins.{joined-append, joined_front}
use Rattle.codec.proofs.Places.{placed-none, placed_then}
use Rattle.modelfile.specs.Files.{bits_of, file_of, Sized, RisingRow, Wide}
use Rattle.modelfile.proofs.Walking.{codes_push}
use Rattle.writing.specs.Appends.{HasSpace}
use Rattle.writing.specs.Saves.{rows_of, Labelled, Labels, Measured, Saved, space_of}
use Rattle.writing.specs.Savings.{SetsFit, SetsGiven, RowsFit, RowsGiven}
use Rattle.writing.specs.Writings.{SetsHold, RowsHold, Filed, Begun, BeginFault, SetDone, SetFault, Turned, RowDone, RowFault}
use Rattle.writing.specs.declared.protocol.Rows.{Rows}
use Rattle.writing.specs.declared.protocol.Sets.{Sets}
use Rattle.writing.specs.declared.protocol.WriteFault.{WriteFault}
use Rattle.writing.specs.declared.protocol.WriteFault.TheVariants.{BadSize, NoSpace, AllGiven, Missing, BadRow}
use Rattle.writing.proofs.Labelling.{labelled_none, labelled_more, labels_front}
use Rattle.writing.proofs.Measuring.{get_d_rows, length_rows, rows_next}

-- a piece that ends within the space has it
has_space : (before buffer piece : List ℕ) (len : ℕ) → length buffer ≡ length before → len + length piece ≤ space_of before → HasSpace buffer len piece
has_space before buffer piece len same fits = (omega arith, omega arith)

-- the bytes of one label more
bits-code_push : (labels : List Facts) (facts : Facts) → codes (bits_of labels) ++ code facts.bits ≡ codes (bits_of (labels ++ (facts ∷ [])))
bits-code_push labels facts = codes_push (bits_of labels) facts.bits ∙ ap codes (sym (map_push (λ (x : Facts). x.bits) labels facts))

bits-code_longer : (labels : List Facts) (facts : Facts) → length (codes (bits_of (labels ++ (facts ∷ [])))) ≡ length (codes (bits_of labels)) + length (code facts.bits)
bits-code_longer labels facts = ap length (sym (bits-code_push labels facts)) ∙ length-append (codes (bits_of labels)) (code facts.bits)

pub sets_none : (M : Kripke) (before : List ℕ) (was : Sets) → was.sets.states ≡ M.frame.size → was.sets.given ≡ 0 → SetsGiven M before before was 0 was
sets_none M before was states none = record {
  labels = [];
  are = labelled_none M;
  states = states;
  given = none;
  text = sym (placed-none before was.sets.len);
  long = omega arith;
  holds = λ h. h;
}

pub sets_more : (M : Kripke) (before buffer after : List ℕ) (start : Sets) (count : ℕ) (was is : Sets) (facts : Facts) → start.sets.len ≤ length before → SetsGiven M before buffer start count was → Wide facts → SameWords (fact_words facts) (words_at M count) → SetDone was facts buffer after is →
    ((labels : List Facts) → SetsHold buffer was labels → SetsHold after is (labels ++ (facts ∷ []))) → SetsGiven M before after start (count + 1) is
sets_more M before buffer after start count was is facts inside old wide same done holds =
    let labels = old.labels in
    let given = old.given in
    record {
      labels = labels ++ (facts ∷ []);
      are = labelled_more M count labels facts old.are wide same;
      states = ap (λ (s : Sets). s.sets.states) done.state ∙ old.states;
      given = ap (λ (s : Sets). s.sets.given) done.state ∙ ap (λ k. k + 1) given;
      text = placed_then before buffer after (codes (bits_of labels)) (code facts.bits) start.sets.len was.sets.len inside old.text old.long done.text ∙ ap (placed before start.sets.len) (bits-code_push labels facts);
      long = ap (λ (s : Sets). s.sets.len) done.state ∙ let long = old.long in omega (arith, bits-code_longer labels facts);
      holds = λ base. holds labels (old.holds base);
    }

-- the labels of the first states take no more bytes than those of all
bits-code_upto : (M : Kripke) (count : ℕ) (labels all : List Facts) → Labelled M count labels → Labels M all → count ≤ M.frame.size → length (codes (bits_of labels)) ≤ length (codes (bits_of all))
bits-code_upto M count labels all some every h =
    let cut : bits_of labels ≡ take count (bits_of all) = ap bits_of (labels_front M count M.frame.size labels all some every h) ∙ sym (take-map (λ (x : Facts). x.bits) count all) in
    omega (arith, joined_front code (bits_of all) count, ap (λ ns. length (codes ns)) cut)

pub set_absurd : (M : Kripke) (before buffer : List ℕ) (start : Sets) (count : ℕ) (was : Sets) (facts : Facts) (e : WriteFault) → SetsFit M before start → SetsGiven M before buffer start count was → length buffer ≡ length before → count < M.frame.size → Wide facts → SameWords (fact_words facts) (words_at M count) → SetFault was facts buffer e → ⊥
set_absurd M before buffer start count was facts BadSize fit old kept h wide same f = f
set_absurd M before buffer start count was facts NoSpace fit old kept h wide same f =
    let long = old.long in
    let fits = fit.fits in
    let more = labelled_more M count old.labels facts old.are wide same in
    f.1 (has_space before buffer (code facts.bits) was.sets.len kept
    (omega (arith, bits-code_longer old.labels facts, bits-code_upto M (count + 1) (old.labels ++ (facts ∷ [])) fit.labels more fit.are (omega arith))))
set_absurd M before buffer start count was facts AllGiven fit old kept h wide same f = let states = old.states in let given = old.given in omega arith
set_absurd M before buffer start count was facts Missing fit old kept h wide same f = f
set_absurd M before buffer start count was facts BadRow fit old kept h wide same f = f

-- the bytes of the rows
abbrev rows_code : List (List ℕ) → List ℕ
rows_code rows = codes (flat_map counted rows)

rows_code_push : (rows : List (List ℕ)) (row : List ℕ) → rows_code rows ++ codes (counted row) ≡ rows_code (rows ++ (row ∷ []))
rows_code_push rows row = sym (joined-append code (flat_map counted rows) (counted row)) ∙ ap codes (flat_map_more counted [] rows row)

rows_code_next : (M : Kripke) (count : ℕ) → count < M.frame.size → rows_code (take count (rows_of M)) ++ codes (counted (M.frame.row count)) ≡ rows_code (take (count + 1) (rows_of M))
rows_code_next M count h = rows_code_push (take count (rows_of M)) (M.frame.row count) ∙ ap rows_code (sym (rows_next M count h))

rows_code_upto : (rows : List (List ℕ)) (count : ℕ) → length (rows_code (take count rows)) ≤ length (rows_code rows)
rows_code_upto rows count =
    let parts = ap rows_code (sym (take-append-drop count rows))
    ∙ (ap codes (joined-append counted (take count rows) (drop count rows))
    ∙ joined-append code (flat_map counted (take count rows)) (flat_map counted (drop count rows))) in
    omega (arith, simp length-append at (ap length parts))

pub rows_none : (M : Kripke) (before : List ℕ) (was : Rows) → was.rows.states ≡ M.frame.size → was.rows.given ≡ 0 → RowsGiven M before before was 0 was
rows_none M before was states none = record {
  states = states;
  given = none;
  text = sym (placed-none before was.rows.len);
  long = omega arith;
  holds = λ labels h. h;
}

pub rows_more : (M : Kripke) (before buffer after : List ℕ) (start : Rows) (count : ℕ) (was is : Rows) → start.rows.len ≤ length before → count < M.frame.size → RowsGiven M before buffer start count was → RowDone was (M.frame.row count) buffer after is →
    ((labels : List Facts) (rows : List (List ℕ)) → RowsHold buffer was labels rows → RowsHold after is labels (rows ++ (M.frame.row count ∷ []))) → RowsGiven M before after start (count + 1) is
rows_more M before buffer after start count was is inside h old done holds =
    let given = old.given in
    let next = rows_code_next M count h in
    record {
      states = ap (λ (w : Rows). w.rows.states) done.state ∙ old.states;
      given = ap (λ (w : Rows). w.rows.given) done.state ∙ ap (λ k. k + 1) given;
      text = placed_then before buffer after (rows_code (take count (rows_of M))) (codes (counted (M.frame.row count))) start.rows.len was.rows.len inside old.text old.long done.text ∙ ap (placed before start.rows.len) next;
      long = ap (λ (w : Rows). w.rows.len) done.state
          ∙ let long = old.long in omega (arith, ap length next, length-append (rows_code (take count (rows_of M))) (codes (counted (M.frame.row count))));
      holds = λ labels base. subst (λ rs. RowsHold after is labels rs) (sym (rows_next M count h)) (holds labels (take count (rows_of M)) (old.holds labels base));
    }

pub row_absurd : (M : Kripke) (before buffer : List ℕ) (start : Rows) (count : ℕ) (was : Rows) (e : WriteFault) → RowsFit M before start → RowsGiven M before buffer start count was → length buffer ≡ length before → count < M.frame.size → RowFault was (M.frame.row count) buffer e → ⊥
row_absurd M before buffer start count was BadSize fit old kept h f = f
row_absurd M before buffer start count was NoSpace fit old kept h f =
    let long = old.long in
    let fits = fit.fits in
    let next = rows_code_next M count h in
    f.2 (has_space before buffer (codes (counted (M.frame.row count))) was.rows.len kept
    (omega (arith, ap length next, length-append (rows_code (take count (rows_of M))) (codes (counted (M.frame.row count))), rows_code_upto (rows_of M) (count + 1))))
row_absurd M before buffer start count was AllGiven fit old kept h f = let states = old.states in let given = old.given in omega arith
row_absurd M before buffer start count was Missing fit old kept h f = f
row_absurd M before buffer start count was BadRow fit old kept h f =
    f.1 (subst (λ n. RisingRow n (M.frame.row count)) (sym old.states)
    (subst (RisingRow M.frame.size) (get_d_rows M count h) (All-get_or (RisingRow M.frame.size) (rows_of M) count [] (omega (arith, length_rows M)) fit.rising)))

pub rows_all : (M : Kripke) (before after : List ℕ) (start w : Rows) (count : ℕ) → count ≡ M.frame.size → RowsGiven M before after start count w → RowsGiven M before after start M.frame.size w
rows_all M before after start w count e given = subst (λ k. RowsGiven M before after start k w) e given

-- the parts of a file: N, the labels and the rows
file_parts : (labels : List Facts) (rows : List (List ℕ)) → file_of labels rows ≡ (code (length labels) ++ codes (bits_of labels)) ++ rows_code rows
file_parts labels rows = joined-append code (length labels ∷ bits_of labels) (flat_map counted rows)

file_length : (labels : List Facts) (rows : List (List ℕ)) → length (file_of labels rows) ≡ length (code (length labels)) + length (codes (bits_of labels)) + length (rows_code rows)
file_length labels rows =
    ap length (file_parts labels rows)
    ∙ (length-append (code (length labels) ++ codes (bits_of labels)) (rows_code rows)
    ∙ ap (λ k. k + length (rows_code rows)) (length-append (code (length labels)) (codes (bits_of labels))))

-- the file of the first rows is no longer than that of all
pub file_upto : (labels : List Facts) (rows : List (List ℕ)) (count : ℕ) → length (file_of labels (take count rows)) ≤ length (file_of labels rows)
file_upto labels rows count = omega (arith, file_length labels (take count rows), file_length labels rows, rows_code_upto rows count)

module _ (M : Kripke) (before : List ℕ) (len n : ℕ) (measured : Measured M (space_of before) len) (is_size : n ≡ M.frame.size) where
  coded-size : length (code n) ≡ length (code (length measured.labels))
  coded-size = ap (λ m. length (code m)) (is_size ∙ sym measured.are.many)

  whole : length (code n) + length (codes (bits_of measured.labels)) + length (rows_code (rows_of M)) ≤ space_of before
  whole =
      let long = measured.long in
      let fits = measured.fits in
      omega (arith, file_length measured.labels (rows_of M), coded-size)

  pub begin_absurd : (e : WriteFault) → BeginFault n before e → ⊥
  begin_absurd BadSize h = h (subst Sized (sym is_size) measured.sized)
  begin_absurd NoSpace h = h.1 (has_space before before (code n) 0 refl (omega (arith, whole)))
  begin_absurd AllGiven h = h
  begin_absurd Missing h = h
  begin_absurd BadRow h = h

  module _ (first : List ℕ) (begun : Sets) (done : Begun n before first begun) (kept : length first ≡ length before) where
    begun-len : begun.sets.len ≡ length (code n)
    begun-len = ap (λ (s : Sets). s.sets.len) done.state

    pub sets_fit : SetsFit M first begun
    sets_fit = record {
      labels = measured.labels;
      are = measured.are;
      states = ap (λ (s : Sets). s.sets.states) done.state ∙ is_size;
      none = ap (λ (s : Sets). s.sets.given) done.state;
      fits = omega (arith, whole, begun-len);
    }

    module _ (second : List ℕ) (sets : Sets) (given : SetsGiven M first second begun M.frame.size sets) (kept_on : length second ≡ length first) (turned : Rows) (done_sets : Turned sets turned) where
      same-labels : given.labels ≡ measured.labels
      same-labels =
          let many = measured.are.many in
          labels_front M M.frame.size M.frame.size given.labels measured.labels given.are measured.are (omega arith)
          ∙ take_all M.frame.size measured.labels (omega arith)

      turned-len : turned.rows.len ≡ length (code n) + length (codes (bits_of measured.labels))
      turned-len =
          ap (λ (w : Rows). w.rows.len) done_sets.state
          ∙ (given.long ∙ (ap (λ k. k + length (codes (bits_of given.labels))) begun-len ∙ ap (λ ls. length (code n) + length (codes (bits_of ls))) same-labels))

      pub rows_fit : RowsFit M second turned
      rows_fit = record {
        rising = measured.rising;
        states = ap (λ (w : Rows). w.rows.states) done_sets.state ∙ given.states;
        none = ap (λ (w : Rows). w.rows.given) done_sets.state;
        fits = omega (arith, whole, turned-len);
      }

      pub saved : (third : List ℕ) (rows : Rows) (answer : ℕ) → RowsGiven M second third turned M.frame.size rows →
          SetsHold first begun [] → ((buffer : List ℕ) (labels : List Facts) → SetsHold buffer sets labels → RowsHold buffer turned labels []) →
          ((buffer : List ℕ) (labels : List Facts) (rs : List (List ℕ)) → RowsHold buffer rows labels rs → Filed buffer answer labels rs) → Saved M before third answer
      saved third rows answer all-rows base turn close =
          let size = M.frame.size in
          let labels = given.labels in
          let full : take size (rows_of M) ≡ rows_of M = take_all size (rows_of M) (omega (arith, length_rows M)) in
          let held = all-rows.holds labels (turn second labels (given.holds base)) in
          let two : second ≡ placed before 0 (code n ++ codes (bits_of labels)) =
          placed_then before first second (code n) (codes (bits_of labels)) 0 begun.sets.len (omega arith) done.text (begun-len ∙ sym (zero-add _)) given.text in
          let joint : turned.rows.len ≡ 0 + length (code n ++ codes (bits_of labels)) =
          ap (λ (w : Rows). w.rows.len) done_sets.state ∙ (given.long ∙ (ap (λ k. k + length (codes (bits_of labels))) begun-len ∙ (sym (length-append (code n) (codes (bits_of labels))) ∙ sym (zero-add _)))) in
          let three : third ≡ placed before 0 ((code n ++ codes (bits_of labels)) ++ rows_code (take size (rows_of M))) =
          placed_then before second third (code n ++ codes (bits_of labels)) (rows_code (take size (rows_of M))) 0 turned.rows.len (omega arith) two joint all-rows.text in
          let file : (code n ++ codes (bits_of labels)) ++ rows_code (take size (rows_of M)) ≡ file_of labels (rows_of M) =
          ap (λ m. (code m ++ codes (bits_of labels)) ++ rows_code (take size (rows_of M))) (is_size ∙ sym given.are.many)
          ∙ (ap (λ rs. (code (length labels) ++ codes (bits_of labels)) ++ rows_code rs) full ∙ sym (file_parts labels (rows_of M))) in
          let filed = subst (λ rs. Filed third answer labels rs) full (close third labels (take size (rows_of M)) held) in
          let sizes = ap (λ ls. length (codes (bits_of ls))) same-labels in
          let long = ap length (sym file) ∙ (length-append (code n ++ codes (bits_of labels)) (rows_code (take size (rows_of M))) ∙ ap (λ k. k + length (rows_code (take size (rows_of M)))) (length-append (code n) (codes (bits_of labels)))) in
          let rest = ap (λ rs. length (rows_code rs)) full in
          record {
            labels = labels;
            are = given.are;
            filed = filed;
            fits = let inside = filed.inside in omega (arith, long, whole, sizes, length-take-le answer third inside, ap length filed.text);
            text = three ∙ ap (placed before 0) file;
          }
