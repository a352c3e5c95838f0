-- What a writing has written, and what each of its calls answers.
use Rattle.std.specs.Prelude.{◌≡◌, ℕ, ◌+◌, ◌<◌, ◌≤◌, List, ◌∷◌, length, take}
use Rattle.std.specs.List.{AllByRecursion}
use Rattle.models.specs.declared.facts.Facts.{Facts}
use Rattle.codec.specs.Numbers.{code, codes, counted}
use Rattle.codec.specs.Pieces.{placed}
use Rattle.modelfile.specs.Files.{bits_of, file_of, longest, Sized, RisingRow, Wide, Valid}
use Rattle.writing.specs.Appends.{HasSpace}
use Rattle.writing.specs.declared.protocol.Refused.{Refused}
use Rattle.writing.specs.declared.protocol.Rows.{Rows}
use Rattle.writing.specs.declared.protocol.Sets.{Sets}
use Rattle.writing.specs.declared.protocol.WriteFault.{WriteFault}
use Rattle.writing.specs.declared.protocol.WriteFault.TheVariants.{BadSize, NoSpace, AllGiven, Missing, BadRow}

-- the number of each refusal
abbrev pub write_cause : WriteFault → ℕ
write_cause BadSize = 41
write_cause NoSpace = 42
write_cause AllGiven = 43
write_cause Missing = 44
write_cause BadRow = 45

-- the buffer begins with N and the labels given so far
pub record SetsHold (buffer : List ℕ) (w : Sets) (labels : List Facts) : Type 0 where
  pub sized : Sized w.sets.states
  pub count : w.sets.given ≡ length labels
  pub few : w.sets.given ≤ w.sets.states
  pub wide : AllByRecursion Wide labels
  pub inside : w.sets.len ≤ length buffer
  pub short : w.sets.len ≤ longest
  pub text : take w.sets.len buffer ≡ codes (w.sets.states ∷ bits_of labels)

-- the buffer begins with the file of all labels and of the rows given so far
pub record RowsHold (buffer : List ℕ) (w : Rows) (labels : List Facts) (rows : List (List ℕ)) : Type 0 where
  pub sized : Sized w.rows.states
  pub all : length labels ≡ w.rows.states
  pub count : w.rows.given ≡ length rows
  pub few : w.rows.given ≤ w.rows.states
  pub wide : AllByRecursion Wide labels
  pub rising : AllByRecursion (RisingRow w.rows.states) rows
  pub inside : w.rows.len ≤ length buffer
  pub short : w.rows.len ≤ longest
  pub text : take w.rows.len buffer ≡ file_of labels rows

-- the first bytes of the buffer are the file of exactly these labels and rows
pub record Filed (buffer : List ℕ) (len : ℕ) (labels : List Facts) (rows : List (List ℕ)) : Type 0 where
  pub valid : Valid labels rows
  pub inside : len ≤ length buffer
  pub short : len ≤ longest
  pub text : take len buffer ≡ file_of labels rows

-- begin: N is written
pub record Begun (states : ℕ) (before after : List ℕ) (is : Sets) : Type 0 where
  pub sized : Sized states
  pub space : HasSpace before 0 (code states)
  pub state : is ≡ record { sets = record { states = states; given = 0; len = length (code states) } }
  pub text : after ≡ placed before 0 (code states)

abbrev pub BeginFault : ℕ → List ℕ → WriteFault → Type 0
BeginFault states before BadSize = Sized states → ⊥
BeginFault states before NoSpace = Sized states × (HasSpace before 0 (code states) → ⊥)
BeginFault states before AllGiven = ⊥
BeginFault states before Missing = ⊥
BeginFault states before BadRow = ⊥

-- set: one label more is written behind what there was
pub record SetDone (was : Sets) (facts : Facts) (before after : List ℕ) (is : Sets) : Type 0 where
  pub more : was.sets.given < was.sets.states
  pub space : HasSpace before was.sets.len (code facts.bits)
  pub state : is ≡ record { sets = record was.sets { given = was.sets.given + 1; len = was.sets.len + length (code facts.bits) } }
  pub text : after ≡ placed before was.sets.len (code facts.bits)

abbrev pub SetFault : Sets → Facts → List ℕ → WriteFault → Type 0
SetFault was facts before BadSize = ⊥
SetFault was facts before NoSpace = (was.sets.given < was.sets.states) × (HasSpace before was.sets.len (code facts.bits) → ⊥)
SetFault was facts before AllGiven = was.sets.states ≤ was.sets.given
SetFault was facts before Missing = ⊥
SetFault was facts before BadRow = ⊥

-- rows: the sets are complete, and nothing is written
pub record Turned (was : Sets) (is : Rows) : Type 0 where
  pub full : was.sets.states ≤ was.sets.given
  pub state : is ≡ record { rows = record was.sets { given = 0 } }

-- row: the degree and the targets are written behind what there was
pub record RowDone (was : Rows) (row : List ℕ) (before after : List ℕ) (is : Rows) : Type 0 where
  pub more : was.rows.given < was.rows.states
  pub rising : RisingRow was.rows.states row
  pub space : HasSpace before was.rows.len (codes (counted row))
  pub state : is ≡ record { rows = record was.rows { given = was.rows.given + 1; len = was.rows.len + length (codes (counted row)) } }
  pub text : after ≡ placed before was.rows.len (codes (counted row))

abbrev pub RowFault : Rows → List ℕ → List ℕ → WriteFault → Type 0
RowFault was row before BadSize = ⊥
RowFault was row before NoSpace = (was.rows.given < was.rows.states) × RisingRow was.rows.states row × (HasSpace before was.rows.len (codes (counted row)) → ⊥)
RowFault was row before AllGiven = was.rows.states ≤ was.rows.given
RowFault was row before Missing = ⊥
RowFault was row before BadRow = (was.rows.given < was.rows.states) × (RisingRow was.rows.states row → ⊥)

-- a refusal hands the writing back as it was, and says why
pub record HandsBack {W : Type 0} (was : W) (why : WriteFault → Type 0) (e : Refused W) : Type 0 where
  pub same : e.writing ≡ was
  pub because : why e.fault

-- something is still missing
abbrev pub Lacks : ℕ → ℕ → WriteFault → Type 0
Lacks given states fault = (fault ≡ Missing) × (given < states)
