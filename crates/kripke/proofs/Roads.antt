-- Roads: chains of at least one step, decided by letting one more inner place in at a time; so what is reached by moves can be decided.
use Rattle.std.proofs.Common.{◌≡◌, ℕ, zero, suc, ◌<◌, ◌⊎◌, length, get_or, refl, subst, inl, inr, arith}
use mathlib.Core.Logic.Dec
use native.Mathlib.Decide.{ℕ_discrete, dec_lt}
use Rattle.kripke.specs.Models.{Frame, nowhere}
use Rattle.kripke.specs.Paths.{Move, Trail}
use Rattle.kripke.specs.Relation.{ST}
use Rattle.kripke.proofs.Finite.{some_below, dec_or}
use Rattle.kripke.proofs.Paths.{trail_first}

-- n steps of E from s to t
abbrev pub Steps : (ℕ → ℕ → Type 0) → ℕ → ℕ → ℕ → Type 0
Steps E zero s t = s ≡ t
Steps E (suc n) s t = (u : ℕ) × E s u × Steps E n u t

abbrev pub Road : (ℕ → ℕ → Type 0) → ℕ → ℕ → Type 0
Road E s t = (n : ℕ) × Steps E (suc n) s t

-- a road whose inner places lie below k
abbrev pub Via : (ℕ → ℕ → Type 0) → ℕ → ℕ → ℕ → Type 0
Via E zero s t = E s t
Via E (suc k) s t = Via E k s t ⊎ (Via E k s k × Via E k k t)

module _ (E : ℕ → ℕ → Type 0) where
  steps-join : (n k s t u : ℕ) → Steps E n s t → Steps E k t u → (l : ℕ) × Steps E l s u
  steps-join zero k s t u p q = (k, rw p q)
  steps-join (suc n) k s t u p q = let r = steps-join n k p.0 t u p.2 q in (suc r.0, (p.0, p.1, r.1))

  via-step : (k s t : ℕ) → E s t → Via E k s t
  via-step zero s t p = p
  via-step (suc k) s t p = inl (via-step k s t p)

  via-from : (k t : ℕ) → Via E (suc k) k t → Via E k k t
  via-from k t (inl p) = p
  via-from k t (inr p) = p.1

  via-to : (k s : ℕ) → Via E (suc k) s k → Via E k s k
  via-to k s (inl p) = p
  via-to k s (inr p) = p.0

  via-join : (k s x t : ℕ) → x < k → Via E k s x → Via E k x t → Via E k s t
  via-join zero s x t h a b = absurd (omega arith)
  via-join (suc k) s x t h a b = go (λ s t. via-join k s x t) (ℕ_discrete x k) a b
    where
      go : ((s t : ℕ) → x < k → Via E k s x → Via E k x t → Via E k s t) → Dec (x ≡ k) → Via E (suc k) s x → Via E (suc k) x t → Via E (suc k) s t
      go rec (yes e) a b = inr (via-to k s (rw e at a), via-from k t (rw e at b))
      go rec (no ne) (inl p) (inl q) = inl (rec s t (omega arith) p q)
      go rec (no ne) (inl p) (inr q) = inr (rec s k (omega arith) p q.0, q.1)
      go rec (no ne) (inr p) (inl q) = inr (p.0, rec k t (omega arith) p.1 q)
      go rec (no ne) (inr p) (inr q) = inr (p.0, q.1)

  pub via_road : (k s t : ℕ) → Via E k s t → Road E s t
  via_road zero s t p = (0, (t, p, refl))
  via_road (suc k) s t (inl p) = via_road k s t p
  via_road (suc k) s t (inr p) =
      let a = via_road k s k p.0 in
      let b = via_road k k t p.1 in
      let j = steps-join a.0 (suc b.0) a.1.0 k t a.1.2 b.1 in
      (j.0, (a.1.0, a.1.1, j.1))

  module _ (m : ℕ) (lies : (s t : ℕ) → E s t → t < m) where
    pub road_via : (n s t : ℕ) → Steps E (suc n) s t → Via E m s t
    road_via zero s t p = via-step m s t (subst (λ w. E s w) p.2 p.1)
    road_via (suc n) s t p = via-join m s p.0 t (lies s p.0 p.1) (via-step m s p.0 p.1) (road_via n p.0 t p.2)

    module _ (d : (s t : ℕ) → Dec (E s t)) where
      dec-via : (k s t : ℕ) → Dec (Via E k s t)
      dec-via zero s t = d s t
      dec-via (suc k) s t = dec_or (dec-via k s t) (Dec.and (dec-via k s k) (dec-via k k t))

      pub dec_road : (s t : ℕ) → Dec (Road E s t)
      dec_road s t = Dec.of_iff (via_road m s t, λ p. road_via p.0 s t p.1) (dec-via m s t)

pub dec_move : (F : Frame) (s t : ℕ) → Dec (Move F s t)
dec_move F s t =
    Dec.of_iff ((λ p. (p.1.0, p.0.0, p.0.1, p.1.1, p.1.2)), (λ p. ((p.1, p.2), (p.0, p.3, p.4))))
    (Dec.and (Dec.and (dec_lt s F.size) (dec_lt t F.size))
    (some_below (length (F.row s)) (λ k. get_or (F.row s) k nowhere ≡ t) (λ k. ℕ_discrete (get_or (F.row s) k nowhere) t)))

-- paths with P throughout are chains of moves from P to P
module _ (F : Frame) (P : ℕ → Type 0) where
  abbrev Edge : ℕ → ℕ → Type 0
  Edge s t = P s × (Move F s t × P t)

  trail-steps : (n s t : ℕ) → Trail (Move F) P n s t → Steps Edge n s t
  trail-steps zero s t p = p.0
  trail-steps (suc n) s t p = (p.0, (p.1, (p.2, trail_first F P n p.0 t p.3)), trail-steps n p.0 t p.3)

  steps-trail : (n s t : ℕ) → P s → Steps Edge n s t → Trail (Move F) P n s t
  steps-trail zero s t h p = (p, h)
  steps-trail (suc n) s t h p = (p.0, h, p.1.1.0, steps-trail n p.0 t p.1.1.1 p.2)

  pub dec_reach : ((w : ℕ) → Dec (P w)) → (s t : ℕ) → Dec ((n : ℕ) × Trail (Move F) P n s t)
  dec_reach d s t =
      Dec.of_iff (to, from)
      (dec_or (Dec.and (ℕ_discrete s t) (d s))
      (dec_road Edge F.size (λ s t e. e.1.0.2) (λ s t. Dec.and (d s) (Dec.and (dec_move F s t) (d t))) s t))
    where
      to : ((s ≡ t) × P s) ⊎ Road Edge s t → (n : ℕ) × Trail (Move F) P n s t
      to (inl p) = (0, p)
      to (inr p) = (suc p.0, steps-trail (suc p.0) s t p.1.1.0 p.1)

      from : (n : ℕ) × Trail (Move F) P n s t → ((s ≡ t) × P s) ⊎ Road Edge s t
      from (zero, p) = inl p
      from (suc n, p) = inr (n, trail-steps (suc n) s t p)

pub dec_ST : (F : Frame) (C : ℕ → ℕ → Type 0) → ((s t : ℕ) → Dec (C s t)) → (s t : ℕ) → Dec (ST F C s t)
dec_ST F C d s t = dec_reach F (C s) (d s) s t
