-- What is known of an analysis once a file was taken into it and settled.
use Rattle.std.specs.Prelude.{ℕ, List, Result, IfOk}
use Rattle.kripke.specs.Relation.{Settles}
use Rattle.models.specs.declared.facts.Facts.{Facts}
use Rattle.merger.specs.Calls.{Analysed, Promises}
use Rattle.merger.specs.declared.analysis.Analysis.{Analysis}
use Rattle.modelfile.specs.Files.{model_of}
use Rattle.modelfile.specs.FirstFault.{Denotes}
use Rattle.modelfile.specs.Loads.{room_of, Tables as Lent}
use Rattle.exchange.specs.declared.taking.TakeFault.{TakeFault}
use Rattle.console.specs.declared.Tables.{Tables}

-- what is lent of the tables
abbrev pub lent : Tables → Lent
lent t = record { labels = t.labels.items; offsets = t.offsets.items; targets = t.targets.items }

-- the analysis stands for the model that the file denotes, after the round that settles it
pub record Settled (file : List ℕ) (t : Lent) (a : Analysis) : Type 0 where
  pub labels : List Facts
  pub rows : List (List ℕ)
  pub denotes : Denotes (room_of t) file labels rows
  pub rounds : ℕ
  pub settles : Settles (model_of labels rows) rounds
  pub stands : Analysed (model_of labels rows) rounds a
  pub promises : Promises (model_of labels rows) rounds a

-- an analysis that is answered is settled
abbrev pub SettleAnswer : List ℕ → Tables → Result Analysis TakeFault → Type 0
SettleAnswer file t answer = IfOk answer (Settled file (lent t))
