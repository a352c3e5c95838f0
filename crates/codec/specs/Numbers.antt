-- How a number is written: seven bits to a byte, the lowest group first, 80 (hexadecimal) added on all bytes but the last.
use Rattle.std.specs.Prelude.{◌≡◌, ℕ, zero, suc, ◌+◌, ◌*◌, ◌/◌, ◌%◌, ◌<◌, ◌≤◌, cond, List, [], ◌∷◌, length, nat_lt}
use Rattle.std.specs.List.{flat_map}

-- bytes that stand for one number: all but the last are 80 or more
abbrev pub Coded : List ℕ → Type 0
Coded [] = ⊥
Coded (b ∷ []) = b < 128
Coded (b ∷ c ∷ cs) = (128 ≤ b) × Coded (c ∷ cs)

-- the number that they stand for
abbrev pub meant : List ℕ → ℕ
meant [] = 0
meant (b ∷ bs) = b % 128 + 128 * meant bs

-- the bytes of n; k bounds the recursion, and n itself is always enough
abbrev pub codeBy : ℕ → ℕ → List ℕ
codeBy zero n = n ∷ []
codeBy (suc k) n = cond (nat_lt n 128) (n ∷ []) ((n % 128 + 128) ∷ codeBy k (n / 128))

unfoldable pub code : ℕ → List ℕ
code n = codeBy n n

-- the bytes of one number after another
abbrev pub codes : List ℕ → List ℕ
codes ns = flat_map code ns

-- how many numbers there are, and then each of them
abbrev pub counted : List ℕ → List ℕ
counted ns = length ns ∷ ns

-- the bytes stand for n, and no fewer bytes do
pub record Shortest (n : ℕ) (bs : List ℕ) : Type 0 where
  pub coded : Coded bs
  pub means : meant bs ≡ n
  pub fewest : (cs : List ℕ) → Coded cs → meant cs ≡ n → length bs ≤ length cs

abbrev pub EachCodeIsShortest : Type 0
EachCodeIsShortest = (n : ℕ) → Shortest n (code n)
