-- What the first pass learns of a file that is right.
use Rattle.std.specs.Prelude.{◌≡◌, ℕ, List, [], ◌∷◌, length}
use Rattle.models.specs.declared.facts.Facts.{Facts}
use Rattle.codec.specs.Numbers.{codes}
use Rattle.modelfile.specs.Files.{targets_of}
use Rattle.modelfile.specs.FirstFault.{Denotes}
use Rattle.modelfile.specs.declared.scan.Room.{Room}
use Rattle.modelfile.specs.declared.scan.Plan.{Plan}

-- the file is right, and this is what was learnt of it
pub record Planned (t : Room) (file : List ℕ) (p : Plan) : Type 0 where
  pub labels : List Facts
  pub rows : List (List ℕ)
  pub denotes : Denotes t file labels rows
  pub states : p.states ≡ length labels
  pub targets : p.targets ≡ length (targets_of rows)
  pub labels_at : p.labels_at ≡ length (codes (length labels ∷ []))
