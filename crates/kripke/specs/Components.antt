-- Components: largest sets of related states that all reach one another inside the set.
-- The relation is that of alike states where a model is meant; a frame alone has components too.
use Rattle.std.specs.Prelude.{◌≡◌, ℕ, suc, ◌<◌, Bool, true, ◌&&◌, ◌==◌, nat_lt}
use Rattle.kripke.specs.Models.{Frame}
use Rattle.kripke.specs.Paths.{Move, Trail}
use Rattle.kripke.specs.Numbering.{Ranked}

-- a set of states, by the test whether a state is in it
abbrev pub States : Type 0
States = ℕ → Bool

-- the states of S are related by L, and each reaches each by moves inside S
pub record Joined (F : Frame) (L : ℕ → ℕ → Type 0) (S : States) : Type 0 where
  pub related : (s t : ℕ) → S s ≡ true → S t ≡ true → L s t
  pub reach : (s t : ℕ) → S s ≡ true → S t ≡ true → (n : ℕ) × Trail (Move F) (λ u. S u ≡ true) n s t

-- S has a state, is joined, and no larger set is
pub record Component (F : Frame) (L : ℕ → ℕ → Type 0) (S : States) : Type 0 where
  pub some : (s : ℕ) × (S s ≡ true)
  pub joined : Joined F L S
  pub largest : (T : States) → Joined F L T → ((s : ℕ) → S s ≡ true → T s ≡ true) → (s : ℕ) → T s ≡ true → S s ≡ true

-- the states with the number i
abbrev pub numbered : Frame → (ℕ → ℕ) → ℕ → States
numbered F part i s = nat_lt s F.size && part s == i

-- part numbers the components by first member, and there are count
pub record Components (F : Frame) (L : ℕ → ℕ → Type 0) (part : ℕ → ℕ) (count : ℕ) : Type 0 where
  pub ranked : Ranked F.size part count
  pub each : (i : ℕ) → i < count → Component F L (numbered F part i)

-- the set S holds a cycle: a path of at least one move inside it that ends where it began
abbrev pub Cyclic : Frame → States → Type 0
Cyclic F S = (s n : ℕ) × Trail (Move F) (λ u. S u ≡ true) (suc n) s s
