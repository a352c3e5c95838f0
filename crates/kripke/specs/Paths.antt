-- Moves and paths. Paths are said of any relation between numbers.
use Rattle.std.specs.Prelude.{◌≡◌, ℕ, zero, suc, ◌<◌, length, slice_index_or}
use Rattle.kripke.specs.Models.{Frame, nowhere}

-- a move from state s to state t
abbrev pub Move : Frame → ℕ → ℕ → Type 0
Move F s t = (k : ℕ) × (s < F.size) × (t < F.size) × (k < length (F.row s)) × (slice_index_or (F.row s) k nowhere ≡ t)

-- a path of n moves from s to t with P at each of its states
abbrev pub Trail : (ℕ → ℕ → Type 0) → (ℕ → Type 0) → ℕ → ℕ → ℕ → Type 0
Trail R P zero s t = (s ≡ t) × P s
Trail R P (suc n) s t = (u : ℕ) × P s × R s u × Trail R P n u t

-- a path of n moves from s that ends with Q, and has P before
abbrev pub Until : (ℕ → ℕ → Type 0) → (ℕ → Type 0) → (ℕ → Type 0) → ℕ → ℕ → Type 0
Until R P Q zero s = Q s
Until R P Q (suc n) s = (t : ℕ) × P s × R s t × Until R P Q n t

-- a path of n moves from s with P at each of its states
abbrev pub Stays : (ℕ → ℕ → Type 0) → (ℕ → Type 0) → ℕ → ℕ → Type 0
Stays R P zero s = P s
Stays R P (suc n) s = (t : ℕ) × P s × R s t × Stays R P n t
