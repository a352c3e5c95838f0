-- Paths: carried over to other predicates, put together, cut off, and run round a cycle.
use Rattle.std.proofs.Common.{ℕ, zero, suc, ◌<◌, ◌⊎◌, refl, subst, inl, inr}
use Rattle.kripke.specs.Models.{Frame}
use Rattle.kripke.specs.Paths.{Move, Trail, Until, Stays}

module _ (F : Frame) (P Q : ℕ → Type 0) (carry : (w : ℕ) → w < F.size → P w → Q w) where
  pub trail_map : (n : ℕ) (s t : ℕ) → s < F.size → Trail (Move F) P n s t → Trail (Move F) Q n s t
  trail_map zero s t h p = (p.0, carry s h p.1)
  trail_map (suc n) s t h p = (p.0, carry s h p.1, p.2, trail_map n p.0 t p.2.2 p.3)

  pub stays_map : (n : ℕ) (s : ℕ) → s < F.size → Stays (Move F) P n s → Stays (Move F) Q n s
  stays_map zero s h p = carry s h p
  stays_map (suc n) s h p = (p.0, carry s h p.1, p.2, stays_map n p.0 p.2.2 p.3)

module _ (F : Frame) (P : ℕ → Type 0) where
  pub trail_first : (n : ℕ) (s t : ℕ) → Trail (Move F) P n s t → P s
  trail_first zero s t p = p.1
  trail_first (suc n) s t p = p.1

  pub trail_last : (n : ℕ) (s t : ℕ) → Trail (Move F) P n s t → P t
  trail_last zero s t p = subst P p.0 p.1
  trail_last (suc n) s t p = trail_last n p.0 t p.3

  -- one more move at the end
  pub trail_more : (n : ℕ) (s t u : ℕ) → Trail (Move F) P n s t → Move F t u → P u → Trail (Move F) P (suc n) s u
  trail_more zero s t u p m q = (u, p.1, rw p.0 m, (refl, q))
  trail_more (suc n) s t u p m q = (p.0, p.1, p.2, trail_more n p.0 t u p.3 m q)

  -- two paths, one behind the other
  pub trail_join : (n k : ℕ) (s t u : ℕ) → Trail (Move F) P n s t → Trail (Move F) P k t u → (l : ℕ) × Trail (Move F) P l s u
  trail_join zero k s t u p q = (k, rw p.0 q)
  trail_join (suc n) k s t u p q =
      let r = trail_join n k p.0 t u p.3 q in
      (suc r.0, (p.0, p.1, p.2, r.1))

  -- a path with its last move cut off
  pub stays_less : (n : ℕ) (s : ℕ) → Stays (Move F) P (suc n) s → Stays (Move F) P n s
  stays_less zero s p = p.1
  stays_less (suc n) s p = (p.0, p.1, p.2, stays_less n p.0 p.3)

  -- n moves from t, and a path from s to t: n moves from s
  pub stays_behind : (k n : ℕ) (s t : ℕ) → Trail (Move F) P k s t → Stays (Move F) P n t → Stays (Move F) P n s
  stays_behind zero n s t p q = rw p.0 q
  stays_behind (suc k) n s t p q = stays_less n s (p.0, p.1, p.2, stays_behind k n p.0 t p.3 q)

  -- from a cycle, any number of moves
  pub stays_round : (k x : ℕ) → Trail (Move F) P (suc k) x x → (n : ℕ) → Stays (Move F) P n x
  stays_round k x p zero = p.1
  stays_round k x p (suc n) = (p.0, p.1, p.2, stays_behind k n p.0 x p.3 (stays_round k x p n))

module _ (F : Frame) (P Q : ℕ → Type 0) where
  -- a path of P, then a move to a path of P that ends in Q
  pub until_behind : (k n : ℕ) (s t u : ℕ) → Trail (Move F) P k s t → Move F t u → Until (Move F) P Q n u → (l : ℕ) × Until (Move F) P Q l s
  until_behind zero n s t u p m q = (suc n, (u, p.1, rw p.0 m, q))
  until_behind (suc k) n s t u p m q =
      let r = until_behind k n p.0 t u p.3 m q in
      (suc r.0, (p.0, p.1, p.2, r.1))

  -- such a path is at its end at once, or leads through P to its last move
  abbrev pub Arrives : ℕ → Type 0
  Arrives s = (t u n : ℕ) × Trail (Move F) P n s t × Move F t u × Q u

  pub until_split : (n s : ℕ) → Until (Move F) P Q n s → Q s ⊎ Arrives s
  until_split zero s p = inl p
  until_split (suc n) s p =
      elim (until_split n p.0 p.3) [
        | inl q ↦ inr (s, p.0, 0, (refl, p.1), p.2, q)
        | inr e ↦ inr (e.0, e.1, suc e.2, (p.0, p.1, p.2, e.3), e.4, e.5)
      ]
