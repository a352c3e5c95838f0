-- What components reach inside their class, known of one component after the other.
use Rattle.std.proofs.Common.{◌≡◌, ℕ, zero, suc, ◌+◌, ◌<◌, ◌≤◌, ◌⊎◌, ◌↔◌, List, length, set, sym, ap, ◌∙◌, subst, inl, inr, ⊎_elim, arith, below_more}
use Rattle.std.proofs.lemmas.Bool.{cases_eq}
use Rattle.std.proofs.lemmas.List.{get_or-set_same, get_or-set_other}
use Rattle.sets.specs.declared.Set.{Set}
use Rattle.sets.specs.Sets.{In, none}
use Rattle.kripke.specs.Paths.{Trail}
use Rattle.merger.specs.declared.partition.Partition.{Partition}
use Rattle.merger.specs.Grids.{at, set_at}
use Rattle.merger.specs.Starts.{Inner, Behind}

-- component l is reached from component k inside their class
abbrev pub Reaches : List Set → Partition → ℕ → ℕ → Type 0
Reaches moves P k l = (n : ℕ) × Trail (Inner moves P) (λ j. j < P.len) n k l

-- row k of a table has what component k reaches
abbrev pub Right : List Set → Partition → List Set → ℕ → Type 0
Right moves P reach k = (l : ℕ) → In (set_at reach k) l ↔ Reaches moves P k l

-- what is known of the first c components in order
abbrev pub Known : List Set → Partition → List ℕ → List Set → ℕ → Type 0
Known moves P order reach c = (d : ℕ) → d < c → Right moves P reach (at order d)

module _ (moves : List Set) (P : Partition) (k : ℕ) (low : k < P.len) (next : Set)
    (is-next : (m : ℕ) → In next m ↔ (In (set_at moves k) m × ((m < P.len) × (at P.class m ≡ at P.class k) × (m ≡ k → ⊥)))) where
  module _ (reach : List Set) (right : (m : ℕ) → In next m → Right moves P reach m) where
    -- a trail stays, or goes over some other component that k moves to
    way : (l n : ℕ) → Trail (Inner moves P) (λ j. j < P.len) n k l → ((m : ℕ) × In next m × In (set_at reach m) l) ⊎ (l ≡ k)
    way l zero t = inr (sym t.0)
    way l (suc n) t = ⊎_elim
        (λ e. way l n (subst (λ u. Trail (Inner moves P) (λ j. j < P.len) n u l) e t.3))
        (λ ne.
        let i = t.2 in
        let m : In next t.0 = (is-next t.0).1 (⊎_elim (λ e. absurd (ne e)) (λ h. h) i.3, (i.1, sym i.2, ne)) in
        inl (t.0, m, (right t.0 m l).1 (n, t.3)))
        (cases_eq t.0 k)

    -- what k reaches is itself, and what those reach that it moves to
    pub reaches_next : (x : Set) → ((l : ℕ) → In x l ↔ (((m : ℕ) × In next m × In (set_at reach m) l) ⊎ ((l ≡ k) × (k < 128)))) →
        (l : ℕ) → In x l ↔ Reaches moves P k l
    reaches_next x is l = (
      (λ h. ⊎_elim
          (λ p.
          let m = (is-next p.0).0 p.1 in
          let r = (right p.0 p.1 l).0 p.2 in
          (suc r.0, (p.0, low, (low, m.1.0, sym m.1.1, inr m.0), r.1)))
          (λ e. (zero, (sym e.0, low)))
          ((is l).0 h)),
      (λ p. (is l).1 (⊎_elim inl (λ e. inr (e, let few = P.few in omega (arith, low))) (way l p.0 p.1))),
    )

-- component k stands at place c of the order
module _ (moves : List Set) (P : Partition) (order : List ℕ) (reach : List Set) (c k : ℕ) (is : k ≡ at order c) (known : Known moves P order reach c) where
  -- then those that it moves to are known
  pub next_known : Behind moves P order → c < P.len → (next : Set) →
      ((m : ℕ) → In next m ↔ (In (set_at moves k) m × ((m < P.len) × (at P.class m ≡ at P.class k) × (m ≡ k → ⊥)))) →
      (m : ℕ) → In next m → Right moves P reach m
  next_known B lc next is-next m h =
      let i = (is-next m).0 h in
      let p = B.each m i.1.0 in
      let late = B.later k m c p.0 i.0 (sym i.1.1) lc p.1 (sym is) p.2 in
      let earlier : p.0 < c = ⊎_elim (λ e. absurd (i.1.2 (sym p.2 ∙ ap (at order) e ∙ sym is))) (λ ne. omega (arith, late)) (cases_eq p.0 c) in
      subst (Right moves P reach) p.2 (known p.0 earlier)

  -- and so is one more
  pub known_more : (x : Set) → k < length reach → ((l : ℕ) → In x l ↔ Reaches moves P k l) → Known moves P order (set reach k x) (c + 1)
  known_more x room new =
      let put : Right moves P (set reach k x) k = subst (λ (y : Set). (l : ℕ) → In y l ↔ Reaches moves P k l) (sym (get_or-set_same reach k x none room)) new in
      below_more (λ d. Right moves P (set reach k x) (at order d)) c
      (λ d l. ⊎_elim
      (λ e. subst (Right moves P (set reach k x)) (sym e) put)
      (λ ne. subst (λ (y : Set). (j : ℕ) → In y j ↔ Reaches moves P (at order d) j) (sym (get_or-set_other reach k (at order d) x none ne)) (known d l))
      (cases_eq (at order d) k))
      (subst (Right moves P (set reach k x)) is put)

-- all are known
pub known_all : (moves : List Set) (P : Partition) (order : List ℕ) (reach : List Set) (c : ℕ) → Behind moves P order → P.len ≤ c →
    Known moves P order reach c → (k l : ℕ) → k < P.len → In (set_at reach k) l ↔ Reaches moves P k l
known_all moves P order reach c B past known k l h =
    let p = B.each k h in
    subst (λ j. In (set_at reach j) l ↔ Reaches moves P j l) p.2 (known p.0 (omega (arith, p.1, past)) l)
