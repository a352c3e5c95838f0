-- What each kind of model means, from what it holds.
use Rattle.std.specs.Prelude.{ℕ, ◌+◌, ◌-◌, max, Bool, false, cond, ◌&&◌, List, [], ◌∷◌, map, length, ◌==◌, nat_le, nat_lt, slice_index, slice_index_or, slice_range}
use Rattle.kripke.specs.Words.{Words}
use Rattle.kripke.specs.Models.{Frame, Labelling, Kripke, nowhere}

-- as many states as labels, where these are not too many and there is one offset more
abbrev pub listed_size : {L : Type 0} → List L → List ℕ → ℕ
listed_size labels offsets = cond (nat_le (length labels) 4096 && length offsets == length labels + 1) (length labels) 0

-- the targets from one place to just before another; none if these fall, pass the table's end or span too many
abbrev pub span : List ℕ → ℕ → ℕ → List ℕ
span targets from to = cond (nat_le from to && (nat_le to (length targets) && nat_le (to - from) 4096)) (slice_range targets from to) []

-- row s as the tables have it, from offset s to just before offset s + 1
abbrev pub table_row : ℕ → List ℕ → List ℕ → ℕ → List ℕ
table_row n offsets targets s = cond (nat_lt s n) (span targets (slice_index offsets s) (slice_index offsets (s + 1))) []

-- a target that is no state is told as nowhere
abbrev pub told : ℕ → ℕ → ℕ
told n t = cond (nat_lt t n) t nowhere

abbrev pub listed_frame : {L : Type 0} → List L → List ℕ → List ℕ → Frame
listed_frame labels offsets targets =
    let n : ℕ = listed_size labels offsets in
    record { size = n; row = λ s. map (told n) (table_row n offsets targets s) }

abbrev pub listed_labels : {L : Type 0} → ℕ → (L → Words) → List L → Labelling
listed_labels count means labels = record { count = count; words = λ s a. slice_index_or (map (λ x. means x a) labels) s false }

-- a model by tables: a label for each state, one offset more, and the targets of all rows
abbrev pub listed : {L : Type 0} → ℕ → (L → Words) → List L → List ℕ → List ℕ → Kripke
listed count means labels offsets targets =
    record { frame = listed_frame labels offsets targets; labels = listed_labels count means labels }

-- a move of the second model, whose states begin at n
abbrev pub shifted : ℕ → ℕ → ℕ
shifted n t = cond (nat_lt t nowhere) (n + t) nowhere

abbrev pub beside_size : ℕ → ℕ → ℕ
beside_size n p = cond (nat_le (n + p) 4096) (n + p) 0

abbrev pub beside_frame : Frame → Frame → Frame
beside_frame l r =
    let n : ℕ = beside_size l.size r.size in
    record {
      size = n;
      row = λ s. cond (nat_lt s n) (cond (nat_lt s l.size) (l.row s) (map (shifted l.size) (r.row (s - l.size)))) [];
    }

-- the labels of two models, of which the first has n states
abbrev pub beside_labels : ℕ → Labelling → Labelling → Labelling
beside_labels n l r = record {
  count = max l.count r.count;
  words = λ s. cond (nat_lt s n) (l.words s) (r.words (s - n));
}

-- two models as one: the second's states follow the first's, and its moves shift with them
abbrev pub beside : Kripke → Kripke → Kripke
beside l r = record { frame = beside_frame l.frame r.frame; labels = beside_labels l.frame.size l.labels r.labels }

-- s is a state with an empty row
abbrev pub rests : Frame → ℕ → Bool
rests F s = nat_lt s F.size && length (F.row s) == 0

-- a state with an empty row gets one move, to itself
abbrev pub rested_frame : Frame → Frame
rested_frame F = record {
  size = F.size;
  row = λ s. cond (rests F s) (s ∷ []) (F.row s);
}

abbrev pub rested : Kripke → Kripke
rested M = record { frame = rested_frame M.frame; labels = M.labels }
