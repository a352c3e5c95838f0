-- The worked cases: small models, and what the definitions give for each.
use Rattle.std.specs.Prelude.{◌≡◌, ℕ, ◌+◌, ◌<◌, true, false, ◌↔◌, List, [], ◌∷◌, negsuc, slice_index}
use Rattle.kripke.specs.Models.{Kripke, WellFormed, Total, Alike}
use Rattle.kripke.specs.Kinds.{listed, beside, rested}
use Rattle.kripke.specs.Formulas.{top, word, neg, until, globally, Holds}
use Rattle.kripke.specs.Relation.{LOOP, Related, Settles}
use Rattle.kripke.specs.Numbering.{Numbering}
use Rattle.kripke.specs.Components.{Components}
use Rattle.kripke.specs.Reduced.{Reduces}
use Rattle.models.specs.Facts.{fact_words}
use Rattle.models.specs.Sun.{sun_words}
use Rattle.models.specs.declared.facts.Facts.{Facts}
use Rattle.models.specs.declared.sun.Sun.{Sun}
use Rattle.survey.specs.Gaps.{Gaps, gap_cause}
use Rattle.survey.specs.declared.gaps.Gap.TheVariants.{EmptyRow}
use Rattle.codec.specs.Numbers.{code}
use Rattle.codec.specs.declared.numbers.NumberFault.TheVariants.{NotFewestAt}
use Rattle.modelfile.specs.Faults.{file_told}
use Rattle.modelfile.specs.Files.{offsets_of, targets_of}
use Rattle.modelfile.specs.FirstFault.{Denotes, FirstFault}
use Rattle.modelfile.specs.declared.faults.FileFault.TheVariants.{InNumber}
use Rattle.modelfile.specs.declared.scan.Room.{Room}

-- a model as a file has it: for each state a label, whose word a is bit a, and a row of moves
pub record Listed : Type 0 where
  pub labels : List Facts
  pub rows : List (List ℕ)

abbrev pub bits : ℕ → Facts
bits n = record { bits = n }

abbrev pub model : Listed → Kripke
model t = listed 64 fact_words t.labels (offsets_of t.rows) (targets_of t.rows)

-- five states, word 0 at state 2; moves 0→1, 1→2, 2→2, 3→2, 4→2 and 4→4
unfoldable pub polls_listed : Listed
polls_listed = record {
  labels = bits 0 ∷ bits 0 ∷ bits 1 ∷ bits 0 ∷ bits 0 ∷ [];
  rows = (1 ∷ []) ∷ (2 ∷ []) ∷ (2 ∷ []) ∷ (2 ∷ []) ∷ (2 ∷ 4 ∷ []) ∷ [];
}

abbrev pub polls : Kripke
polls = model polls_listed

-- three states, word 0 at state 1; moves 0→1, 1→1, 2→1 and 2→2
unfoldable pub merged_listed : Listed
merged_listed = record {
  labels = bits 0 ∷ bits 1 ∷ bits 0 ∷ [];
  rows = (1 ∷ []) ∷ (1 ∷ []) ∷ (1 ∷ 2 ∷ []) ∷ [];
}

abbrev pub merged : Kripke
merged = model merged_listed

-- words 0, 1, 2, 0, 1 and none; moves 0→1→2→2 and 3→4→5→5
unfoldable pub chain_listed : Listed
chain_listed = record {
  labels = bits 1 ∷ bits 2 ∷ bits 4 ∷ bits 1 ∷ bits 2 ∷ bits 0 ∷ [];
  rows = (1 ∷ []) ∷ (2 ∷ []) ∷ (2 ∷ []) ∷ (4 ∷ []) ∷ (5 ∷ []) ∷ (5 ∷ []) ∷ [];
}

abbrev pub chain : Kripke
chain = model chain_listed

-- one state, with a move to itself and without
unfoldable pub lone_listed : Listed
lone_listed = record { labels = bits 0 ∷ []; rows = (0 ∷ []) ∷ [] }

abbrev pub lone : Kripke
lone = model lone_listed

unfoldable pub bare_listed : Listed
bare_listed = record { labels = bits 0 ∷ []; rows = [] ∷ [] }

abbrev pub bare : Kripke
bare = model bare_listed

-- tables with room for any file
abbrev pub wide : Room
wide = record { labels = 4096; offsets = 4097; targets = 32767 }

-- the bytes denote the model
abbrev pub Denoted : List ℕ → Listed → Type 0
Denoted file t = Denotes wide file t.labels t.rows

-- the sun at an altitude, with the shutter shut and no guide star
abbrev pub sun_at : ℕ → Sun
sun_at below = record { altitude = negsuc below; shutter = false; guide = false }

-- the class of each state, listed
unfoldable pub of : List ℕ → ℕ → ℕ
of l s = slice_index l s

-- M is well formed and total, has K components and h label classes, and settles by round r, with m classes, as listed
pub record Found (M : Kripke) (K h r m : ℕ) (class : List ℕ) : Type 0 where
  pub formed : WellFormed M
  pub total : Total M.frame
  pub components : (part : ℕ → ℕ) × Components M.frame (Alike M) part K
  pub labels : (c : ℕ → ℕ) × Numbering (Related M 0) M.frame.size c h
  pub settles : Settles M r
  pub classes : Numbering (Related M r) M.frame.size (of class) m

pub record Worked : Type 0 where
  pub polls_file : Denoted (5 ∷ 0 ∷ 0 ∷ 1 ∷ 0 ∷ 0 ∷ 1 ∷ 1 ∷ 1 ∷ 2 ∷ 1 ∷ 2 ∷ 1 ∷ 2 ∷ 2 ∷ 2 ∷ 4 ∷ []) polls_listed
  pub of_polls : Found polls 5 2 2 3 (0 ∷ 0 ∷ 1 ∷ 0 ∷ 2 ∷ [])
  -- only the loop tells 0 from 4
  pub polls_loops : (s : ℕ) → s < 5 → Alike polls 0 s → LOOP polls.frame (Alike polls) s ↔ (s ≡ 4)
  pub polls_merged : Reduces polls (Related polls 2) (of (0 ∷ 0 ∷ 1 ∷ 0 ∷ 2 ∷ [])) 3 merged
  pub merged_file : Denoted (3 ∷ 0 ∷ 1 ∷ 0 ∷ 1 ∷ 1 ∷ 1 ∷ 1 ∷ 2 ∷ 1 ∷ 2 ∷ []) merged_listed
  pub of_chain : Found chain 6 4 3 6 (0 ∷ 1 ∷ 2 ∷ 3 ∷ 4 ∷ 5 ∷ [])
  pub chain_together : Related chain 1 0 3
  pub chain_apart : Related chain 2 0 3 → ⊥
  pub of_pair : Found (beside polls polls) 10 2 2 3 (0 ∷ 0 ∷ 1 ∷ 0 ∷ 2 ∷ 0 ∷ 0 ∷ 1 ∷ 0 ∷ 2 ∷ [])
  pub pair_doubled : (s : ℕ) → s < 5 → Related (beside polls polls) 2 s (s + 5)
  pub of_lone : Found lone 1 1 1 1 (0 ∷ [])
  pub bare_refused : Gaps bare.frame (EmptyRow 0) × (gap_cause (EmptyRow 0) ≡ 15)
  pub of_rested : Found (rested bare) 1 1 1 1 (0 ∷ [])
  pub stays_off : (s : ℕ) → s < 5 → Holds polls (globally (neg (word 0))) s ↔ (s ≡ 4)
  pub gets_there : (s : ℕ) → s < 5 → Holds polls (until top (word 0)) s
  -- the altitudes -50 and -49: the first number counts how far below -1 it lies
  pub sun_set : sun_words (sun_at 49) 0 ≡ true
  pub sun_up : sun_words (sun_at 48) 0 ≡ false
  pub three_hundred : code 300 ≡ 0xAC ∷ 0x02 ∷ []
  pub one_two_seven : code 127 ≡ 0x7F ∷ []
  -- two bytes for nothing
  pub not_fewest : FirstFault wide (0x80 ∷ 0x00 ∷ []) (InNumber (NotFewestAt 0))
  pub told : file_told (InNumber (NotFewestAt 0)) ≡ record { layer = 1; cause = 2; place = 0; number = 0 }
