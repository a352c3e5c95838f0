-- Boolean tests, each with what it tells: the test computes alone, and the proof never does.
use Rattle.std.proofs.Common.{◌≡◌, ℕ, zero, suc, ◌<◌, Bool, true, false, not, ◌&&◌, ◌||◌, T, eqb, ltb, ◌⊎◌, ◌↔◌, List, [], get_or, sym, refl, subst, inl, inr, true≢false, arith, eqb→eq, ltb→lt, lt→ltb}
use mathlib.Core.Bool.{beq, false≢true}
use native.Mathlib.Decide.{ℕ_discrete}
use Rattle.worked.specs.Tables.{any, every, row, lines, grid, look}
use lib.Dec.{eqb_refl}

-- P holds exactly where the test says true
pub data Tells (P : Type 0) : Bool → Type 0 where
  holds : P → Tells P true
  fails : (P → ⊥) → Tells P false

pub sure : {P : Type 0} → Tells P true → P
sure (holds p) = p

pub never : {P : Type 0} → Tells P false → P → ⊥
never (fails o) = o

pub tells_true : {P : Type 0} {b : Bool} → Tells P b → P → b ≡ true
tells_true (holds p) q = refl
tells_true (fails o) q = absurd (o q)

pub true_tells : {P : Type 0} {b : Bool} → Tells P b → b ≡ true → P
true_tells (holds p) e = p
true_tells (fails o) e = absurd (false≢true e)

pub turned : {P Q : Type 0} {b : Bool} → (P → Q) → (Q → P) → Tells P b → Tells Q b
turned f g (holds p) = holds (f p)
turned f g (fails o) = fails (λ q. o (g q))

pub both : {P Q : Type 0} {a b : Bool} → Tells P a → Tells Q b → Tells (P × Q) (a && b)
both (holds p) (holds q) = holds (p, q)
both (holds p) (fails o) = fails (λ r. o r.1)
both (fails o) q = fails (λ r. o r.0)

pub either : {P Q : Type 0} {a b : Bool} → Tells P a → Tells Q b → Tells (P ⊎ Q) (a || b)
either (holds p) q = holds (inl p)
either (fails o) (holds q) = holds (inr q)
either (fails o) (fails u) = fails (λ r. elim r [ inl p ↦ o p | inr q ↦ u q ])

pub refuted : {P : Type 0} {b : Bool} → Tells P b → Tells (P → ⊥) (not b)
refuted (holds p) = fails (λ o. o p)
refuted (fails o) = holds o

pub implies : {P Q : Type 0} {a b : Bool} → Tells P a → Tells Q b → Tells (P → Q) (not a || b)
implies (fails o) q = holds (λ p. absurd (o p))
implies (holds p) (holds q) = holds (λ _. q)
implies (holds p) (fails o) = fails (λ f. o (f p))

pub equals : {P Q : Type 0} {a b : Bool} → Tells P a → Tells Q b → Tells (P ↔ Q) (beq a b)
equals (holds p) (holds q) = holds (λ _. q, λ _. p)
equals (holds p) (fails o) = fails (λ r. o (r.0 p))
equals (fails o) (holds q) = fails (λ r. o (r.1 q))
equals (fails o) (fails u) = holds (λ p. absurd (o p), λ q. absurd (u q))

pub tells_bool : (a b : Bool) → Tells (a ≡ b) (beq a b)
tells_bool true true = holds refl
tells_bool true false = fails true≢false
tells_bool false true = fails false≢true
tells_bool false false = holds refl

pub tells_so : (b : Bool) → Tells (b ≡ true) b
tells_so true = holds refl
tells_so false = fails false≢true

from_T : {P : Type 0} (b : Bool) → (T b → P) → (P → T b) → Tells P b
from_T true f g = holds (f tt)
from_T false f g = fails (λ p. g p)

pub tells_eq : (m n : ℕ) → Tells (m ≡ n) (eqb m n)
tells_eq m n = from_T (eqb m n) (eqb→eq m n) (λ e. subst (λ k. T (eqb m k)) e (eqb_refl m))

pub tells_lt : (m n : ℕ) → Tells (m < n) (ltb m n)
tells_lt m n = from_T (ltb m n) (ltb→lt m n) (lt→ltb m n)

pub tells_any : (n : ℕ) (P : ℕ → Type 0) (f : ℕ → Bool) → ((i : ℕ) → i < n → Tells (P i) (f i)) →
    Tells ((i : ℕ) × (i < n) × P i) (any n f)
unfolding any
tells_any zero P f t = fails (λ p. omega (arith, p.1))
tells_any (suc n) P f t =
    turned {P = P n ⊎ ((i : ℕ) × (i < n) × P i)}
    (λ r. elim r [ inl p ↦ (n, omega arith, p) | inr q ↦ (q.0, omega (arith, q.1), q.2) ])
    (λ p. elim (ℕ_discrete p.0 n) [
      | yes e ↦ inl (subst P e p.2)
      | no o ↦ inr (p.0, omega (arith, p.1), p.2)
    ])
    (either (t n (omega arith)) (tells_any n P f (λ i h. t i (omega arith))))

pub tells_every : (n : ℕ) (P : ℕ → Type 0) (f : ℕ → Bool) → ((i : ℕ) → i < n → Tells (P i) (f i)) →
    Tells ((i : ℕ) → i < n → P i) (every n f)
unfolding every
tells_every zero P f t = holds (λ i h. absurd (omega arith))
tells_every (suc n) P f t =
    turned {P = P n × ((i : ℕ) → i < n → P i)}
    (λ r i h. elim (ℕ_discrete i n) [
      | yes e ↦ subst P (sym e) r.0
      | no o ↦ r.1 i (omega arith)
    ])
    (λ p. (p n (omega arith), λ i h. p i (omega arith)))
    (both (t n (omega arith)) (tells_every n P f (λ i h. t i (omega arith))))

row_at : (n : ℕ) (f : ℕ → Bool) (i : ℕ) → i < n → f i ≡ get_or (row n f) i false
unfolding row
row_at zero f i h = absurd (omega arith)
row_at (suc n) f zero h = refl
row_at (suc n) f (suc i) h = row_at n (λ j. f (suc j)) i (omega arith)

lines_at : (n k : ℕ) (f : ℕ → ℕ → Bool) (i : ℕ) → i < k → row n (f i) ≡ get_or (lines n k f) i []
unfolding lines
lines_at n zero f i h = absurd (omega arith)
lines_at n (suc k) f zero h = refl
lines_at n (suc k) f (suc i) h = lines_at n k (λ j. f (suc j)) i (omega arith)

-- what a table of k lines, each of n answers, has in its places
pub lines-look : (n k : ℕ) (f : ℕ → ℕ → Bool) (i j : ℕ) → i < k → j < n → f i j ≡ look (lines n k f) i j
lines-look n k f i j h l = subst (λ v. f i j ≡ get_or v j false) (lines_at n k f i h) (row_at n (f i) j l)

-- each answer of a row, and of a square, tells P
abbrev pub Lists : ℕ → List Bool → (ℕ → Type 0) → Type 0
Lists n l P = (i : ℕ) → i < n → Tells (P i) (get_or l i false)

abbrev pub Draws : ℕ → List (List Bool) → (ℕ → ℕ → Type 0) → Type 0
Draws n m P = (i j : ℕ) → i < n → j < n → Tells (P i j) (look m i j)

pub lists : (n : ℕ) (P : ℕ → Type 0) (f : ℕ → Bool) → ((i : ℕ) → i < n → Tells (P i) (f i)) → Lists n (row n f) P
lists n P f t i h = subst (λ b. Tells (P i) b) (row_at n f i h) (t i h)

pub draws : (n : ℕ) (P : ℕ → ℕ → Type 0) (f : ℕ → ℕ → Bool) → ((i j : ℕ) → i < n → j < n → Tells (P i j) (f i j)) →
    Draws n (grid n f) P
draws n P f t i j h k =
    subst (λ l. Tells (P i j) (get_or l j false)) (lines_at n n f i h) (lists n (P i) (f i) (λ x y. t i x h y) j k)
