-- One turn of each loop over a table of moves.
use Rattle.std.proofs.Common.{◌≡◌, ℕ, zero, suc, ◌+◌, ◌-◌, ◌<◌, ◌≤◌, ◌↔◌, List, sym, subst, add-one, arith}
use Rattle.sets.specs.declared.Set.{Set}
use Rattle.sets.specs.Sets.{In}
use Rattle.kripke.specs.Paths.{Until, Stays}
use Rattle.checker.specs.Tables.{Goes, Closed, Feeds}

-- of the states below n, x has those with a path of k moves in f
abbrev pub Lasts : List Set → ℕ → Set → Set → ℕ → Type 0
Lasts rows n f x k = (s : ℕ) → s < n → In x s ↔ Stays (Goes rows) (In f) k s

-- y has the states in f with a move into x
abbrev pub Keeps : List Set → ℕ → Set → Set → Set → Type 0
Keeps rows n f x y = (s : ℕ) → In y s ↔ (In f s × Feeds rows x n s)

module _ (rows : List Set) (n : ℕ) (f : Set) (closed : Closed n rows) where
  -- one move more before a path in f
  pub lasts_more : (k : ℕ) (x y : Set) → Lasts rows n f x k → Keeps rows n f x y → Lasts rows n f y (k + 1)
  lasts_more k x y inv made s h = subst (λ (i : ℕ). In y s ↔ Stays (Goes rows) (In f) i s) (sym (add-one k)) (
    (λ i. let p = (made s).0 i in (p.1.0, p.0, p.1.2, (inv p.1.0 (closed s p.1.0 h p.1.2)).0 p.1.3)),
    (λ p. (made s).1 (p.1, (p.0, h, p.2, (inv p.0 (closed s p.0 h p.2)).1 p.3))),
  )

  -- what one move more leaves as it is stays so for any number of moves
  lasts_on : (d k : ℕ) (x : Set) → Lasts rows n f x k → Keeps rows n f x x → Lasts rows n f x (k + d)
  lasts_on zero k x inv same = let e : k ≡ k + 0 = omega arith in subst (λ (i : ℕ). Lasts rows n f x i) e inv
  lasts_on (suc d) k x inv same = let e : k + d + 1 ≡ k + suc d = omega arith in subst (λ (i : ℕ). Lasts rows n f x i) e (lasts_more (k + d) x x (lasts_on d k x inv same) same)

  pub lasts_all : (k : ℕ) (x : Set) → k ≤ n → Lasts rows n f x k → Keeps rows n f x x → Lasts rows n f x n
  lasts_all k x le inv same = let e : k + (n - k) ≡ n = omega arith in subst (λ (i : ℕ). Lasts rows n f x i) e (lasts_on (n - k) k x inv same)

  -- what is closed under a move back has every state with a path
  pub until_all : (g found : Set) → ((s : ℕ) → In g s → In found s) → ((s : ℕ) → (In f s × Feeds rows found n s) → In found s) →
      (k s : ℕ) → s < n → Until (Goes rows) (In f) (In g) k s → In found s
  until_all g found base back zero s h p = base s p
  until_all g found base back (suc k) s h p =
      back s (p.1, (p.0, h, p.2, until_all g found base back k p.0 (closed s p.0 h p.2) p.3))

-- what has a move into a state with a path has a path
pub until_more : (rows : List Set) (n : ℕ) (f g found : Set) → ((s : ℕ) → In found s → (k : ℕ) × Until (Goes rows) (In f) (In g) k s) →
    (s : ℕ) → (In f s × Feeds rows found n s) → (k : ℕ) × Until (Goes rows) (In f) (In g) k s
until_more rows n f g found inv s p = let u = inv p.1.0 p.1.3 in (suc u.0, (p.1.0, p.0, p.1.2, u.1))
