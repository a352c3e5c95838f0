-- Each round's relation can be decided.
use Rattle.std.proofs.Common.{ℕ}
use mathlib.Core.Logic.Dec
use native.Mathlib.Decide.{dec_lt}
use Rattle.kripke.specs.Models.{Kripke, WellFormed}
use Rattle.kripke.specs.Relation.{Related}
use Rattle.kripke.proofs.Rounds.{related_equivalence}
use Rattle.kripke.proofs.Truth.{dec_holds}
use Rattle.kripke.proofs.Telling.{characteristic, characteristic_tells}

pub dec_related : (M : Kripke) → WellFormed M → (r s t : ℕ) → Dec (Related M r s t)
dec_related M formed r s t =
    let E = related_equivalence M r in
    elim (dec_lt s M.frame.size) [
      | no o ↦ no (λ p. o (E.members s t p).0)
      | yes h ↦ elim (dec_lt t M.frame.size) [
        | no o ↦ no (λ p. o (E.members s t p).1)
        | yes k ↦ Dec.of_iff (characteristic_tells M formed r s t h k) (dec_holds M (characteristic M r s) t)
      ]
    ]
