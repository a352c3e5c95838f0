-- There and back: proofs.
use Rattle.std.proofs.Common.{◌≡◌, ℕ, ◌<◌, ◌≤◌, false, ltb, List, [], map, length, get_or, take, Ok, Err, Result, sym, refl, ap, ◌∙◌, subst, ⊎_elim, zero-add, arith, MatchResult}
use Rattle.std.specs.List.{AllByRecursion}
use Rattle.std.proofs.lemmas.List.FromFn.{get_or-map-range_with_len, length-map-range_with_len}
use Rattle.std.proofs.ByRecursion.{All-get_or}
use Rattle.std.proofs.lemmas.List.{ext_get_or, get_or-map, get_or-take, length-take, length-take-le, take_all, take-take}
use Rattle.std.proofs.lemmas.Bool.{cases_lt, cond-true, cond-false, lt-ltb, le-ltb}
use Rattle.kripke.specs.Models.{Kripke}
use Rattle.models.specs.Facts.{fact_words}
use Rattle.models.specs.declared.facts.Facts.{Facts}
use Rattle.codec.specs.Pieces.{placed}
use Rattle.modelfile.specs.Files.{file_of, Sized, RisingRow, Valid, targets_of, model_of}
use Rattle.modelfile.specs.FirstFault.{Denotes}
use Rattle.modelfile.specs.Loads.{room_of, Filled}
use Rattle.modelfile.specs.declared.scan.Room.{Room}
use Rattle.modelfile.proofs.Outcome.{one_outcome}
use Rattle.writing.specs.Saves.{rows_of, Labels, TooShort, RowBad, SaveFault, Saved, Saves, space_of}
use Rattle.writing.specs.Trips.{SameModel, HoldsFile, ClosedLoadsBack, SavedLoadsBack, LoadedSavesBack, OneSaving}
use Rattle.writing.specs.Writings.{Filed}
use Rattle.writing.specs.declared.protocol.WriteFault.{WriteFault}
use Rattle.writing.specs.declared.protocol.WriteFault.TheVariants.{BadSize, NoSpace, AllGiven, Missing, BadRow}
use Rattle.writing.proofs.Giving.{file_upto}
use Rattle.writing.proofs.Labelling.{blank, labels_front}
use Rattle.writing.proofs.Measuring.{get_d_rows, length_rows}

-- the first bytes of a closed writing are the file
filed_length : (buffer : List ℕ) (len : ℕ) (labels : List Facts) (rows : List (List ℕ)) → Filed buffer len labels rows → len ≡ length (file_of labels rows)
filed_length buffer len labels rows filed = let inside = filed.inside in sym (length-take-le len buffer inside) ∙ ap length filed.text

pub closed_loads_back : ClosedLoadsBack
closed_loads_back buffer len labels rows t filed held =
    let inside = filed.inside in
    let short = filed.short in
    let long = length-take-le len buffer inside in
    record { short = omega arith; valid = filed.valid; held = held; text = filed.text }

-- what the label of a state says
label_says : (labels : List Facts) (s : ℕ) (a : ℕ) → s < length labels → get_or (map (λ (x : Facts). fact_words x a) labels) s false ≡ fact_words (get_or labels s blank) a
label_says labels s a h = get_or-map (λ (x : Facts). fact_words x a) labels s blank false h

same_model : (M : Kripke) (labels : List Facts) → Labels M labels → SameModel (model_of labels (rows_of M)) M
same_model M labels are =
    let many = are.many in
    record {
      states = many;
      moves = λ s h. get_d_rows M s h;
      words = λ s a. ⊎_elim
          (λ l. cond-true (ltb s (length labels)) _ _ (lt-ltb s (length labels) (omega arith)) ∙ (label_says labels s a (omega arith) ∙ are.says s l a))
          (λ l. cond-false (ltb s (length labels)) _ _ (le-ltb s (length labels) (omega arith)) ∙ sym (cond-false (ltb s M.frame.size) _ _ (le-ltb s M.frame.size l)))
          (cases_lt s M.frame.size);
    }

pub saved_loads_back : SavedLoadsBack
saved_loads_back M buffer written len before after (Ok l) saved held loads =
    let labels = saved.labels in
    let many = saved.are.many in
    let room : HoldsFile (room_of before) (length labels) (rows_of M) = subst (λ n. HoldsFile (room_of before) n (rows_of M)) (sym many) held in
    let denotes = closed_loads_back written len labels (rows_of M) (room_of before) saved.filed room in
    let one = (one_outcome (room_of before) (take len written)).one_model loads.labels labels loads.rows (rows_of M) loads.denotes denotes in
    record {
      labels = labels;
      are = saved.are;
      filled = subst (λ rs. Filled before after labels rs) one.1 (subst (λ ls. Filled before after ls loads.rows) one.0 loads.filled);
      states = loads.states ∙ (ap length one.0 ∙ many);
      targets = loads.targets ∙ ap (λ rs. length (targets_of rs)) one.1;
      same = subst (λ D. SameModel D M) (sym (loads.means ∙ (ap (λ ls. model_of ls loads.rows) one.0 ∙ ap (model_of labels) one.1))) (same_model M labels saved.are);
    }
saved_loads_back M buffer written len before after (Err e) saved held loads =
    let labels = saved.labels in
    let room : HoldsFile (room_of before) (length labels) (rows_of M) = subst (λ n. HoldsFile (room_of before) n (rows_of M)) (sym saved.are.many) held in
    (one_outcome (room_of before) (take len written)).not_both labels (rows_of M) e (closed_loads_back written len labels (rows_of M) (room_of before) saved.filed room) loads.0

-- the rows of the model of a file
rows_back : (labels : List Facts) (rows : List (List ℕ)) → length rows ≡ length labels → rows_of (model_of labels rows) ≡ rows
rows_back labels rows each =
    let many = length-map-range_with_len (λ (s : ℕ). get_or rows s []) 0 (length labels) in
    ext_get_or [] (rows_of (model_of labels rows)) rows (omega arith) (λ i h. get_or-map-range_with_len (λ (s : ℕ). get_or rows s []) 0 (length labels) i i [] (omega arith) (zero-add i))

-- its labels
labels_of : (labels : List Facts) (rows : List (List ℕ)) → Valid labels rows → Labels (model_of labels rows) labels
labels_of labels rows valid = record {
  many = refl;
  wide = valid.wide;
  says = λ s h a. sym (cond-true (ltb s (length labels)) _ _ (lt-ltb s (length labels) h) ∙ label_says labels s a h);
}

labels_back : (labels others : List Facts) (rows : List (List ℕ)) → Valid labels rows → Labels (model_of labels rows) others → others ≡ labels
labels_back labels others rows valid are =
    labels_front (model_of labels rows) (length labels) (length labels) others labels are (labels_of labels rows valid) (omega arith) ∙ take_all (length labels) labels (omega arith)

-- what the file of a model is, as save finds it
file_back : (labels others : List Facts) (rows : List (List ℕ)) → Valid labels rows → Labels (model_of labels rows) others → (count : ℕ) → file_of others (take count (rows_of (model_of labels rows))) ≡ file_of labels (take count rows)
file_back labels others rows valid are count =
    ap (λ ls. file_of ls (take count (rows_of (model_of labels rows)))) (labels_back labels others rows valid are)
    ∙ ap (λ rs. file_of labels (take count rs)) (rows_back labels rows valid.each)

saves_back : (file : List ℕ) (labels : List Facts) (rows : List (List ℕ)) (t : Room) (buffer written : List ℕ) (answer : Result ℕ WriteFault) → Denotes t file labels rows → Saves (model_of labels rows) buffer written answer →
    MatchResult answer (λ len. (len ≡ length file) × (written ≡ placed buffer 0 file)) (λ e. (e ≡ NoSpace) × (length buffer < length file))
saves_back file labels rows t buffer written (Ok len) denotes saved =
    let valid = denotes.valid in
    let is : file_of saved.labels (rows_of (model_of labels rows)) ≡ file =
    ap (λ ls. file_of ls (rows_of (model_of labels rows))) (labels_back labels saved.labels rows valid saved.are)
    ∙ (ap (file_of labels) (rows_back labels rows valid.each) ∙ sym denotes.text) in
    (filed_length written len saved.labels (rows_of (model_of labels rows)) saved.filed ∙ ap length is, saved.text ∙ ap (placed buffer 0) is)
saves_back file labels rows t buffer written (Err BadSize) denotes fault = absurd (fault.0 denotes.valid.sized)
saves_back file labels rows t buffer written (Err NoSpace) denotes fault =
    let over = fault.0.over in
    let short = denotes.short in
    let is = ap length (file_back labels fault.0.labels rows denotes.valid fault.0.are fault.0.upto) in
    (refl, omega (arith, file_upto labels rows fault.0.upto, ap length denotes.text))
saves_back file labels rows t buffer written (Err AllGiven) denotes fault = absurd fault.0
saves_back file labels rows t buffer written (Err Missing) denotes fault = absurd fault.0
saves_back file labels rows t buffer written (Err BadRow) denotes fault =
    let each = denotes.valid.each in
    let state = fault.0.state in
    absurd (fault.0.falls (All-get_or (RisingRow (length labels)) rows fault.0.upto [] (omega arith) denotes.valid.rising))

pub loaded_saves_back : LoadedSavesBack
loaded_saves_back file before after loaded buffer written answer accepts saves =
    saves_back file accepts.labels accepts.rows (room_of before) buffer written answer accepts.denotes (subst (λ D. Saves D buffer written answer) accepts.means saves)

-- two lists of labels of one model are one
one_labels : (M : Kripke) (ls ks : List Facts) → Labels M ls → Labels M ks → ls ≡ ks
one_labels M ls ks a b =
    let many = b.many in
    labels_front M M.frame.size M.frame.size ls ks a b (omega arith) ∙ take_all M.frame.size ks (omega arith)

-- a model that has space for all of it is not too short
not_short : (M : Kripke) (space : ℕ) (labels : List Facts) → Labels M labels → length (file_of labels (rows_of M)) ≤ space → TooShort M space → ⊥
not_short M space labels are fits short =
    let over = short.over in
    let is = ap (λ ls. length (file_of ls (take short.upto (rows_of M)))) (one_labels M short.labels labels short.are are) in
    omega (arith, file_upto labels (rows_of M) short.upto)

-- all rows rise, so none is bad
not_bad : (M : Kripke) (space : ℕ) → AllByRecursion (RisingRow M.frame.size) (rows_of M) → RowBad M space → ⊥
not_bad M space rising bad =
    let state = bad.state in
    bad.falls (subst (RisingRow M.frame.size) (get_d_rows M bad.upto state) (All-get_or (RisingRow M.frame.size) (rows_of M) bad.upto [] (omega (arith, length_rows M)) rising))

-- what is refused first is one thing
not_two : (M : Kripke) (space : ℕ) → TooShort M space → RowBad M space → ⊥
not_two M space short bad =
    let rows = rows_of M in
    let n = M.frame.size in
    let state = bad.state in
    let long = length_rows M in
    ⊎_elim
    (λ l.
    let taken = length-take short.upto rows in
    let inside : bad.upto < length (take short.upto rows) = omega arith in
    let there = get_or-take short.upto rows bad.upto [] l in
    bad.falls (subst (RisingRow n) (there ∙ get_d_rows M bad.upto state) (All-get_or (RisingRow n) (take short.upto rows) bad.upto [] inside short.rising)))
    (λ l.
    let over = short.over in
    let fits = bad.fits in
    let same = one_labels M short.labels bad.labels short.are bad.are in
    let is = ap (λ ls. length (file_of ls (take short.upto rows))) same in
    let cut = ap (λ rs. length (file_of bad.labels rs)) (take-take short.upto bad.upto rows l) in
    omega (arith, file_upto bad.labels (take bad.upto rows) short.upto))
    (cases_lt bad.upto short.upto)

one_fault : (M : Kripke) (space : ℕ) (d e : WriteFault) → SaveFault M space d → SaveFault M space e → d ≡ e
one_fault M space BadSize BadSize a b = refl
one_fault M space BadSize NoSpace a b = absurd (a b.sized)
one_fault M space BadSize BadRow a b = absurd (a b.sized)
one_fault M space NoSpace BadSize a b = absurd (b a.sized)
one_fault M space NoSpace NoSpace a b = refl
one_fault M space NoSpace BadRow a b = absurd (not_two M space a b)
one_fault M space BadRow BadSize a b = absurd (b a.sized)
one_fault M space BadRow NoSpace a b = absurd (not_two M space b a)
one_fault M space BadRow BadRow a b = refl
one_fault M space AllGiven e a b = absurd a
one_fault M space Missing e a b = absurd a
one_fault M space BadSize AllGiven a b = absurd b
one_fault M space BadSize Missing a b = absurd b
one_fault M space NoSpace AllGiven a b = absurd b
one_fault M space NoSpace Missing a b = absurd b
one_fault M space BadRow AllGiven a b = absurd b
one_fault M space BadRow Missing a b = absurd b

-- what is written is not refused
not_refused : (M : Kripke) (before after : List ℕ) (len : ℕ) (e : WriteFault) → Saved M before after len → SaveFault M (space_of before) e → ⊥
not_refused M before after len BadSize saved fault = fault (subst Sized saved.are.many saved.filed.valid.sized)
not_refused M before after len NoSpace saved fault =
    let fits = saved.fits in
    not_short M (space_of before) saved.labels saved.are (omega (arith, filed_length after len saved.labels (rows_of M) saved.filed)) fault
not_refused M before after len AllGiven saved fault = fault
not_refused M before after len Missing saved fault = fault
not_refused M before after len BadRow saved fault =
    not_bad M (space_of before) (subst (λ n. AllByRecursion (RisingRow n) (rows_of M)) saved.are.many saved.filed.valid.rising) fault

pub one_saving : OneSaving
one_saving M buffer first second (Ok p) (Ok q) a b =
    let same = one_labels M a.labels b.labels a.are b.are in (
      ap Ok (filed_length first p a.labels (rows_of M) a.filed ∙ (ap (λ ls. length (file_of ls (rows_of M))) same ∙ sym (filed_length second q b.labels (rows_of M) b.filed))),
      a.text ∙ (ap (λ ls. placed buffer 0 (file_of ls (rows_of M))) same ∙ sym b.text),
    )
one_saving M buffer first second (Ok p) (Err e) a b = absurd (not_refused M buffer first p e a b.0)
one_saving M buffer first second (Err d) (Ok q) a b = absurd (not_refused M buffer second q d b a.0)
one_saving M buffer first second (Err d) (Err e) a b = (ap Err (one_fault M (space_of buffer) d e a.0 b.0), a.1 ∙ sym b.1)
