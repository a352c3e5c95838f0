-- A round that parts nothing is followed by none that does; each earlier round makes more classes, and there are no more classes than states.
use Rattle.std.proofs.Common.{◌≡◌, ℕ, zero, suc, ◌+◌, ◌<◌, ◌≤◌, sym, refl, subst, arith}
use native.Mathlib.Decide.{ℕ_discrete}
use Rattle.kripke.specs.Models.{Frame, Kripke, WellFormed}
use Rattle.kripke.specs.Equivalence.{Equivalence}
use Rattle.kripke.specs.Numbering.{Numbering}
use Rattle.kripke.specs.Relation.{ST, NEXT, LOOP, Matched, Refined, Related, Stable, Settles}
use Rattle.kripke.proofs.Paths.{trail_map}
use Rattle.kripke.proofs.Rounds.{related_equivalence}
use Rattle.kripke.proofs.Deciding.{dec_related}
use Rattle.kripke.proofs.Ranking.{finer_more, parts_more, ranked_few}
use Rattle.kripke.proofs.Numbering.{numbered}

-- relations that are the same have the same next round
module _ (F : Frame) (C D : ℕ → ℕ → Type 0) (to : (s t : ℕ) → C s t → D s t) where
  pub st_same : (s t : ℕ) → s < F.size → ST F C s t → ST F D s t
  st_same s t h p = (p.0, trail_map F (C s) (D s) (λ w _ q. to s w q) p.0 s t h p.1)

  pub loop_same : (s : ℕ) → s < F.size → LOOP F C s → LOOP F D s
  loop_same s h l =
      (l.0, l.1, trail_map F (ST F C s) (ST F D s) (λ w _ p. st_same s w h p) (suc l.1) l.0 l.0 l.2.2.1 l.2)

module _ (F : Frame) (C D : ℕ → ℕ → Type 0) (to : (s t : ℕ) → C s t → D s t) (from : (s t : ℕ) → D s t → C s t) where
  next-same : (s t : ℕ) → s < F.size → NEXT F C s t → NEXT F D s t
  next-same s t h x = (x.0, (λ p. x.1 (st_same F D C from s t h p)), st_same F C D to s x.0 h x.2, x.3)

pub refined_same : (F : Frame) (C D : ℕ → ℕ → Type 0) → Equivalence F.size C → ((s t : ℕ) → C s t → D s t) → ((s t : ℕ) → D s t → C s t) →
    (s t : ℕ) → Refined F C s t → Refined F D s t
refined_same F C D E to from s t p =
    let h = E.members s t p.0 in (
      to s t p.0,
      (
        (λ l. loop_same F C D to t h.1 (p.1.0 (loop_same F D C from s h.0 l))),
        (λ l. loop_same F C D to s h.0 (p.1.1 (loop_same F D C from t h.1 l))),
      ),
      matched s t h.0 h.1 p.2,
      matched t s h.1 h.0 p.3,
    )
  where
    matched : (s t : ℕ) → s < F.size → t < F.size → Matched F C s t → Matched F D s t
    matched s t h k m u x =
        let y = m u (next-same F D C from to s u h x) in
        (y.0, next-same F C D to from t y.0 k y.1, to u y.0 y.2)

pub stable_next : (M : Kripke) (r : ℕ) → Stable M r → Stable M (suc r)
stable_next M r stable = refined_same M.frame (Related M r) (Related M (suc r)) (related_equivalence M r) stable (λ s t p. p.0)

-- once a round parts nothing, no later round does
pub stable_later : (M : Kripke) (q r : ℕ) → q ≤ r → Stable M q → Stable M r
stable_later M q zero h stable = let e : q ≡ zero = omega arith in subst (Stable M) e stable
stable_later M q (suc r) h stable =
    elim (ℕ_discrete q (suc r)) [
      | yes e ↦ subst (Stable M) e stable
      | no other ↦ stable_next M r (stable_later M q r (omega arith) stable)
    ]

-- so what is related then stays related
pub related_later : (M : Kripke) (q r : ℕ) → q ≤ r → Stable M q → (s t : ℕ) → Related M q s t → Related M r s t
related_later M q zero h stable s t p = let e : q ≡ zero = omega arith in subst (λ k. Related M k s t) e p
related_later M q (suc r) h stable s t p =
    elim (ℕ_discrete q (suc r)) [
      | yes e ↦ subst (λ k. Related M k s t) e p
      | no other ↦
          let l : q ≤ r = omega arith in
          stable_later M q r l stable s t (related_later M q r l stable s t p)
    ]

-- a round that settles is one after which nothing is parted
pub settles_stable : (M : Kripke) (r : ℕ) → Settles M r → Stable M r
settles_stable M r S = let q : ℕ = S.0 in subst (Stable M) (sym S.1) (stable_next M q S.2)

-- no round before r parts nothing
abbrev pub Unsettled : Kripke → ℕ → Type 0
Unsettled M r = (q : ℕ) → q < r → Stable M q → ⊥

-- the classes before and after one round
module _ (M : Kripke) (r m k : ℕ) (f g : ℕ → ℕ) (A : Numbering (Related M r) M.frame.size f m) (B : Numbering (Related M (suc r)) M.frame.size g k) where
  finer : (s t : ℕ) → s < M.frame.size → t < M.frame.size → g s ≡ g t → f s ≡ f t
  finer s t h l e = (A.same s t h l).1 ((B.same s t h l).0 e).0

  pub classes_grow : m ≤ k
  classes_grow = finer_more M.frame.size m k f g A.ranked B.ranked finer

  pub same_stable : m ≡ k → Stable M r
  same_stable e s t p =
      let b = (related_equivalence M r).members s t p in
      elim (ℕ_discrete (g s) (g t)) [
        | yes q ↦ (B.same s t b.0 b.1).0 q
        | no apart ↦
            let o = parts_more M.frame.size m k f g A.ranked B.ranked finer s t b.0 b.1 ((A.same s t b.0 b.1).1 p) apart in
            absurd (omega arith)
      ]

  pub stable_same : Stable M r → m ≡ k
  stable_same stable =
      let back = finer_more M.frame.size k m g f B.ranked A.ranked (λ s t h l e. (B.same s t h l).1 (stable s t ((A.same s t h l).0 e))) in
      let on = classes_grow in omega arith

  pub unsettled_next : Unsettled M r → (m ≡ k → ⊥) → Unsettled M (suc r)
  unsettled_next going o q b stable =
      elim (ℕ_discrete q r) [
        | yes same ↦ o (stable_same (subst (Stable M) same stable))
        | no other ↦ going q (omega arith) stable
      ]

module _ (M : Kripke) (formed : WellFormed M) where
  pub classes : (r : ℕ) → (f : ℕ → ℕ) × ((m : ℕ) × Numbering (Related M r) M.frame.size f m)
  classes r = numbered M.frame.size (Related M r) (related_equivalence M r) (dec_related M formed r)

  module _ (h : ℕ) where
    -- round z settles, and there are m classes then
    abbrev Found : Type 0
    Found = (z m : ℕ) × ((b : ℕ → ℕ) × (Settles M z × (Numbering (Related M z) M.frame.size b m × (h + z ≤ m + 1))))

    ended : (r m k : ℕ) (f g : ℕ → ℕ) → Numbering (Related M r) M.frame.size f m → Numbering (Related M (suc r)) M.frame.size g k →
        Unsettled M r → h + r ≤ m → m ≡ k → Found
    ended r m k f g A B going low e = (suc r, k, (g, ((r, refl, same_stable M r m k f g A B e, going), (B, omega arith))))

    -- there are at most so many more classes to come
    settle-from : (more r m : ℕ) (f : ℕ → ℕ) → Numbering (Related M r) M.frame.size f m → Unsettled M r → h + r ≤ m → M.frame.size ≤ m + more → Found
    settle-from zero r m f A going low left =
        let w = classes (suc r) in
        let up = classes_grow M r m w.1.0 f w.0 A w.1.1 in
        let few = ranked_few M.frame.size w.1.0 w.0 w.1.1.ranked in
        ended r m w.1.0 f w.0 A w.1.1 going low (omega arith)
    settle-from (suc more) r m f A going low left =
        let w = classes (suc r) in
        let up = classes_grow M r m w.1.0 f w.0 A w.1.1 in
        elim (ℕ_discrete m w.1.0) [
          | yes e ↦ ended r m w.1.0 f w.0 A w.1.1 going low e
          | no o ↦ settle-from more (suc r) w.1.0 w.0 w.1.1 (unsettled_next M r m w.1.0 f w.0 A w.1.1 going o) (omega arith) (omega arith)
        ]

  -- some round settles: with h classes at first and m then, h and the rounds are at most m + 1
  pub rounds_end_lem : (z h m : ℕ) × (a b : ℕ → ℕ) × Settles M z × Numbering (Related M 0) M.frame.size a h × Numbering (Related M z) M.frame.size b m × (h + z ≤ m + 1)
  rounds_end_lem =
      let w = classes 0 in
      let h : ℕ = w.1.0 in
      let p = settle-from h M.frame.size 0 h w.0 w.1.1 (λ q b stable. absurd (omega arith)) (omega arith) (omega arith) in
      (p.0, h, p.1, w.0, p.2.0, p.2.1.0, w.1.1, p.2.1.1.0, p.2.1.1.1)
