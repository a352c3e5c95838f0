-- The table of roads, closed by letting one more inner place in at a time.
use Rattle.std.proofs.Common.{ℕ, zero, suc, ◌<◌, ◌≤◌, ◌&&◌, ◌||◌, arith}
use Rattle.kripke.proofs.Roads.{Road, Via, via_road, road_via}
use Rattle.worked.specs.Tables.{look}
use Rattle.worked.specs.Decisions.{Table, widen, close}
use Rattle.worked.proofs.Tests.{turned, both, either, Draws, draws}

module _ (n : ℕ) (E : ℕ → ℕ → Type 0) (m : Table) (t : Draws n m E) where
  draws-via : (k : ℕ) → k ≤ n → Draws n (close n k m) (Via E k)
  unfolding close widen
  draws-via zero h = t
  draws-via (suc k) h =
      let d = draws-via k (omega arith) in
      draws n (Via E (suc k)) (λ i j. look (close n k m) i j || (look (close n k m) i k && look (close n k m) k j))
      (λ i j a b. either (d i j a b) (both (d i k a h) (d k j h b)))

  pub draws_road : ((s t : ℕ) → E s t → t < n) → Draws n (close n n m) (Road E)
  draws_road lies i j a b =
      turned (via_road E n i j) (λ (p : Road E i j). road_via E n lies p.0 i j p.1) (draws-via n (omega arith) i j a b)
