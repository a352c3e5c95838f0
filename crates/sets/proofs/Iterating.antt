-- The iterator over a set's members gives them as the rising list has them.
use Rattle.std.proofs.Common.{◌≡◌, ℕ, length, Option, ap}
use Rattle.std.specs.Prelude.{MatchOption}
use Rattle.std.proofs.lemmas.Iterator.{YieldsList}
use Rattle.std.proofs.lemmas.Iterator.Consumers.{YieldsList-from_shown}
use Rattle.sets.specs.declared.IntoIter.{IntoIter}
use Rattle.sets.specs.Sets.{Splits, members}
use Rattle.sets.proofs.Members.{members-none, members_split}

-- what one call of next gives
abbrev pub Gives : IntoIter → Option ℕ → IntoIter → Type 0
Gives x r y = MatchOption r ((x.left.bits ≡ 0) × (y ≡ x)) (λ k. Splits x.left k y.left)

pub gives_members : (x : IntoIter) → YieldsList Gives (λ k. k) x (members x.left)
gives_members = YieldsList-from_shown Gives (λ k. k) (λ x. members x.left)
    (λ s t e. ap length (members-none s.left e.0))
    (λ s k t e. members_split s.left k t.left e)
