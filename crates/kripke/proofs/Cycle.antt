-- A path of as many moves as there are states comes to some state twice.
use Rattle.std.proofs.Common.{ℕ, zero, suc, ◌<◌, ◌≤◌, sym, refl, subst, arith}
use Rattle.kripke.specs.Models.{Frame}
use Rattle.kripke.specs.Paths.{Move, Trail, Stays}
use Rattle.kripke.proofs.Paths.{stays_behind, stays_round}
use Rattle.kripke.proofs.Counting.{repeats}

module _ (F : Frame) (P : ℕ → Type 0) where
  -- the state after i moves
  unfoldable after : (n s : ℕ) → Stays (Move F) P n s → ℕ → ℕ
  after zero s p i = s
  after (suc n) s p zero = s
  after (suc n) s p (suc i) = after n p.0 p.3 i

  after-state : (n s : ℕ) (p : Stays (Move F) P n s) → s < F.size → (i : ℕ) → after n s p i < F.size
  unfolding after
  after-state zero s p h i = h
  after-state (suc n) s p h zero = h
  after-state (suc n) s p h (suc i) = after-state n p.0 p.3 p.2.2 i

  after-trail : (n s : ℕ) (p : Stays (Move F) P n s) (i : ℕ) → i ≤ n → Trail (Move F) P i s (after n s p i)
  unfolding after
  after-trail zero s p zero h = (refl, p)
  after-trail zero s p (suc i) h = absurd (omega arith)
  after-trail (suc n) s p zero h = (refl, p.1)
  after-trail (suc n) s p (suc i) h = (p.0, p.1, p.2, after-trail n p.0 p.3 i (omega arith))

  after-between : (n s : ℕ) (p : Stays (Move F) P n s) (i j : ℕ) → i < j → j ≤ n →
      (k : ℕ) × Trail (Move F) P (suc k) (after n s p i) (after n s p j)
  unfolding after
  after-between zero s p i j h b = absurd (omega arith)
  after-between (suc n) s p zero zero h b = absurd (omega arith)
  after-between (suc n) s p zero (suc j) h b = (j, after-trail (suc n) s p (suc j) b)
  after-between (suc n) s p (suc i) zero h b = absurd (omega arith)
  after-between (suc n) s p (suc i) (suc j) h b = after-between n p.0 p.3 i j (omega arith) (omega arith)

-- such a path leads to a cycle
pub lasso : (F : Frame) (P : ℕ → Type 0) (s : ℕ) → s < F.size → Stays (Move F) P F.size s →
    (x n k : ℕ) × Trail (Move F) P n s x × Trail (Move F) P (suc k) x x
lasso F P s h p =
    let f = after F P F.size s p in
    let t = repeats F.size f (λ i _. after-state F P F.size s p h i) in
    let r = after-between F P F.size s p t.0 t.1 t.2 (omega (arith, t.3)) in (
      f t.0,
      t.0,
      r.0,
      after-trail F P F.size s p t.0 (omega (arith, t.2, t.3)),
      subst (λ w. Trail (Move F) P (suc r.0) (f t.0) w) (sym t.4) r.1,
    )

module _ (F : Frame) (P : ℕ → Type 0) where
  -- so as many moves as there are states give any number of moves
  pub pump : (s : ℕ) → s < F.size → Stays (Move F) P F.size s → (n : ℕ) → Stays (Move F) P n s
  pump s h p n =
      let l = lasso F P s h p in
      stays_behind F P l.1 n s l.0 l.3 (stays_round F P l.2 l.0 l.4 n)

  -- behind a state with arbitrarily long paths comes one with arbitrarily long paths
  pub onwards : (s : ℕ) → ((n : ℕ) → Stays (Move F) P n s) → (t : ℕ) × Move F s t × ((n : ℕ) → Stays (Move F) P n t)
  onwards s p =
      let q = p (suc F.size) in
      (q.0, q.2, pump q.0 q.2.2 q.3)
