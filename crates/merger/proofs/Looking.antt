-- The classes one move ahead of a component.
use Rattle.std.proofs.Common.{◌≡◌, ℕ, ◌+◌, ◌<◌, ◌≤◌, ◌⊎◌, ◌↔◌, List, sym, refl, ◌∙◌, subst, inl, inr, ⊎_elim, arith}
use Rattle.std.specs.Prelude.{◌≢◌}
use Rattle.std.proofs.lemmas.Bool.{cases_eq}
use Rattle.sets.specs.declared.Set.{Set}
use Rattle.sets.specs.Sets.{In, none, Splits}
use Rattle.sets.proofs.Bits.{On as BitOn, in_dec, none_in}
use Rattle.merger.specs.declared.partition.Partition.{Partition}
use Rattle.merger.specs.declared.reach.Reach.{Reach}
use Rattle.merger.specs.Reaching.{On, Outlook}
use Rattle.merger.specs.Grids.{at, set_at, Ahead, Several}

-- all has the classes of what is in leaving and not in left, and of nothing else
pub record Looked (class : List ℕ) (leaving all left : Set) : Type 0 where
  pub sound : (c : ℕ) → In all c → (to : ℕ) × In leaving to × (at class to ≡ c)
  pub whole : (to : ℕ) → In leaving to → In left to ⊎ In all (at class to)
  pub inside : (to : ℕ) → In left to → In leaving to

-- a set that is no more than another, and lacks a member of it, is less
pub looked_fewer : (left left' : Set) (to : ℕ) → In left to → (In left' to → ⊥) → left'.bits ≤ left.bits → left'.bits < left.bits
looked_fewer left left' to was gone most = ⊎_elim
    (λ e. absurd (gone (subst (λ (b : ℕ). BitOn b to) (sym e) was)))
    (λ other. omega arith)
    (cases_eq left'.bits left.bits)

module _ (class : List ℕ) (leaving : Set) where
  pub looked_none : Looked class leaving none leaving
  looked_none = record { sound = λ c h. absurd (none_in c h); whole = λ to h. inl h; inside = λ to h. h }

  -- one class more, with all of its items
  pub looked_more : (all left : Set) (to one : ℕ) (rest all' left' group : Set) → one ≡ at class to → one < 128 → ((l : ℕ) → In group l → at class l ≡ one) →
      Looked class leaving all left → Splits left to rest →
      ((j : ℕ) → In all' j ↔ (In all j ⊎ ((j ≡ one) × (one < 128)))) →
      ((j : ℕ) → In left' j ↔ (In left j × (In group j → ⊥))) → Looked class leaving all' left'
  looked_more all left to one rest all' left' group is low same L S with' minus = record {
    sound = λ c h. ⊎_elim (λ was. L.sound c was) (λ e. (to, L.inside to S.has, sym is ∙ sym e.0)) ((with' c).0 h);
    whole = λ l h. ⊎_elim
        (λ in_left. ⊎_elim
        (λ in_group. inr ((with' (at class l)).1 (inr (same l in_group, low))))
        (λ out. inl ((minus l).1 (in_left, out)))
        (in_dec group.bits l))
        (λ seen. inr ((with' (at class l)).1 (inl seen)))
        (L.whole l h);
    inside = λ l h. L.inside l ((minus l).0 h).0;
  }

  pub looked_all : (all left : Set) → ((l : ℕ) → In left l → ⊥) → Looked class leaving all left →
      (c : ℕ) → In all c ↔ ((to : ℕ) × In leaving to × (at class to ≡ c))
  looked_all all left empty L c = (
    L.sound c,
    λ p. ⊎_elim (λ h. absurd (empty p.0 h)) (λ h. subst (λ i. In all i) p.2 h) (L.whole p.0 p.1),
  )

-- the moves that leave the class or stay in the component are those that go to no other component of the class
module _ (P : Partition) (from : ℕ) (low : from < P.len) (moves leaving all mates : Set)
    (inside : (to : ℕ) → In moves to → to < P.len)
    (others : (j : ℕ) → In mates j ↔ ((j < P.len) × (at P.class j ≡ at P.class from) × (j ≢ from)))
    (leaves : (j : ℕ) → In leaving j ↔ (In moves j × (In mates j → ⊥)))
    (tells : (c : ℕ) → In all c ↔ ((to : ℕ) × In leaving to × (at P.class to ≡ c))) where
  pub ahead_all : (c : ℕ) → In all c ↔ Ahead (In moves) (at P.class) from c
  ahead_all c = (
    (λ h.
        let p = (tells c).0 h in
        let to : ℕ = p.0 in
        let l = (leaves to).0 p.1 in (
          to,
          l.0,
          ⊎_elim
              (λ e. inr e)
              (λ other. inl (λ same. l.1 ((others to).1 (inside to l.0, same, other))))
              (cases_eq to from),
          p.2,
        )),
    (λ p.
        let to : ℕ = p.0 in
        let out : In mates to → ⊥ = λ m. let o = (others to).0 m in ⊎_elim (λ n. n o.1) (λ e. o.2 e) p.2 in
        (tells c).1 (to, (leaves to).1 (p.1, out), p.3)),
  )

-- what is ahead of each component, seen from what k reaches
pub outlook_from : (reach : Reach) (moves ahead : List Set) (P : Partition) (wanted x : Set) (k : ℕ) → In wanted k →
    ((k l : ℕ) → In wanted k → l < P.len → On reach k l → In wanted l) →
    ((k : ℕ) → In wanted k → (c : ℕ) → In (set_at ahead k) c ↔ Ahead (In (set_at moves k)) (at P.class) k c) →
    ((c : ℕ) → In x c ↔ ((l : ℕ) × (l < P.len) × On reach k l × In (set_at ahead l) c)) →
    (c : ℕ) → In x c ↔ Outlook reach moves P k c
outlook_from reach moves ahead P wanted x k h closed tells union c = (
  (λ o. let p = (union c).0 o in (p.0, p.1, p.2, (tells p.0 (closed k p.0 h p.1 p.2) c).0 p.3)),
  (λ p. (union c).1 (p.0, p.1, p.2, (tells p.0 (closed k p.0 h p.1 p.2) c).1 p.3)),
)

-- and of one that reaches only itself
pub outlook_own : (reach : Reach) (moves ahead : List Set) (P : Partition) (k : ℕ) → k < P.len → ((l : ℕ) → On reach k l ↔ (l ≡ k)) →
    ((c : ℕ) → In (set_at ahead k) c ↔ Ahead (In (set_at moves k)) (at P.class) k c) → (c : ℕ) → In (set_at ahead k) c ↔ Outlook reach moves P k c
outlook_own reach moves ahead P k low only tells c = (
  (λ h. (k, low, (only k).1 refl, (tells c).0 h)),
  (λ p. (tells c).1 (subst (λ l. Ahead (In (set_at moves l)) (at P.class) l c) ((only p.0).0 p.2) p.3)),
)

-- all has the members of the classes below n that have two members
abbrev pub SharedBelow : List Set → Set → ℕ → Type 0
SharedBelow members all n = (k : ℕ) → In all k ↔ ((c : ℕ) × (c < n) × Several (set_at members c) × In (set_at members c) k)

module _ (members : List Set) where
  pub shared_on : (all all' : Set) (n : ℕ) → SharedBelow members all n → Several (set_at members n) →
      ((k : ℕ) → In all' k ↔ (In all k ⊎ In (set_at members n) k)) → SharedBelow members all' (n + 1)
  shared_on all all' n A many joined k = (
    (λ h. ⊎_elim (λ was. let p = (A k).0 was in (p.0, omega (arith, p.1), p.2, p.3)) (λ new. (n, omega arith, many, new)) ((joined k).0 h)),
    (λ p. (joined k).1 (⊎_elim
        (λ same. inr (subst (λ i. In (set_at members i) k) same p.3))
        (λ other. inl ((A k).1 (p.0, omega (arith, p.1, other), p.2, p.3)))
        (cases_eq p.0 n))),
  )

  pub shared_off : (all : Set) (n : ℕ) → SharedBelow members all n → (Several (set_at members n) → ⊥) → SharedBelow members all (n + 1)
  shared_off all n A few k = (
    (λ h. let p = (A k).0 h in (p.0, omega (arith, p.1), p.2, p.3)),
    (λ p. ⊎_elim
        (λ same. absurd (few (subst (λ i. Several (set_at members i)) same p.2)))
        (λ other. (A k).1 (p.0, omega (arith, p.1, other), p.2, p.3))
        (cases_eq p.0 n)),
  )
