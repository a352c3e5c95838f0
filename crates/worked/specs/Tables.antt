-- Questions on numbers below n answered at once, as rows and squares of answers, so that each is computed once.
use Rattle.std.specs.Prelude.{ℕ, zero, suc, Bool, true, false, ◌&&◌, ◌||◌, List, [], ◌∷◌, slice_index_or}

-- some number below n, and every number below n
unfoldable pub any : ℕ → (ℕ → Bool) → Bool
any zero f = false
any (suc n) f = f n || any n f

unfoldable pub every : ℕ → (ℕ → Bool) → Bool
every zero f = true
every (suc n) f = f n && every n f

-- the first number below n with a yes, and n if there is none
unfoldable pub seek : ℕ → (ℕ → Bool) → ℕ
seek zero f = 0
seek (suc n) f = elim (f 0) as (λ _. ℕ) [ true ↦ 0 | false ↦ suc (seek n (λ i. f (suc i))) ]

-- the answers for the numbers below n
unfoldable pub row : ℕ → (ℕ → Bool) → List Bool
row zero f = []
row (suc n) f = f 0 ∷ row n (λ i. f (suc i))

unfoldable pub lines : ℕ → ℕ → (ℕ → ℕ → Bool) → List (List Bool)
lines n zero f = []
lines n (suc k) f = row n (f 0) ∷ lines n k (λ i. f (suc i))

-- the answers for pairs of numbers below n
abbrev pub grid : ℕ → (ℕ → ℕ → Bool) → List (List Bool)
grid n f = lines n n f

abbrev pub look : List (List Bool) → ℕ → ℕ → Bool
look m i j = slice_index_or (slice_index_or m i []) j false
