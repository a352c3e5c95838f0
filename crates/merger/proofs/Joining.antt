-- One item more is put into a class, and the classes are numbered by first item.
use Rattle.std.proofs.Common.{◌≡◌, ℕ, ◌+◌, ◌<◌, ◌≤◌, max, ◌⊎◌, ◌↔◌, List, length, set, sym, refl, ap, ◌∙◌, subst, inl, inr, ⊎_elim, arith}
use Rattle.std.proofs.lemmas.Bool.{cases_eq, cases_lt}
use Rattle.std.proofs.lemmas.List.{get_or-set_same, get_or-set_other}
use Rattle.sets.specs.declared.Set.{Set}
use Rattle.sets.specs.Sets.{In, none}
use Rattle.sets.proofs.Bits.{On, none_in}
use Rattle.kripke.specs.Numbering.{Ranked, Numbering}
use Rattle.kripke.proofs.Numbering.{number_old, number_new}
use Rattle.merger.specs.declared.partition.Partition.{Partition}
use Rattle.merger.specs.Grids.{at, set_at, Groups}
use Rattle.merger.proofs.Blank.{after_set}

-- item k of P joins class c, and x has the items of that class then
module _ (P : Partition) (c : ℕ) (x : Set) (room : P.len < 128) (there : c ≤ P.classes) (long : length P.class ≡ 128) (tall : length P.members ≡ 128)
    (with' : (j : ℕ) → In x j ↔ (In (set_at P.members c) j ⊎ ((j ≡ P.len) × (P.len < 128)))) where
  kept : (k : ℕ) → k < P.len → at (set P.class P.len c) k ≡ at P.class k
  kept k h = get_or-set_other P.class P.len k c 0 (omega arith)

  last : at (set P.class P.len c) P.len ≡ c
  last = get_or-set_same P.class P.len c 0 (omega arith)

  wide : c < length P.members
  wide = let m = P.most in omega arith

  pub joined-groups : Groups (set P.members c x) (set P.class P.len c) (P.len + 1)
  joined-groups = record {
    low = λ k h. ⊎_elim
        (λ e. let l = ap (at (set P.class P.len c)) e ∙ last in let m = P.most in omega arith)
        (λ other. let l = kept k (omega arith) in let b = P.groups.low k (omega arith) in omega arith)
        (cases_eq k P.len);
    each = λ d k. after_set none P.members c x wide (λ i z. In z k ↔ ((k < P.len + 1) × (at (set P.class P.len c) k ≡ i))) (
      (λ h. ⊎_elim
          (λ was. let p = (P.groups.each c k).0 was in (omega (arith, p.0), kept k p.0 ∙ p.1))
          (λ e. (omega (arith, e.0), ap (at (set P.class P.len c)) e.0 ∙ last))
          ((with' k).0 h)),
      (λ p. (with' k).1 (⊎_elim
          (λ e. inr (e, room))
          (λ other. inl ((P.groups.each c k).1 (omega (arith, p.0, other), sym (kept k (omega (arith, p.0, other))) ∙ p.1)))
          (cases_eq k P.len))),
    )
        (λ i other. (
          (λ h. let p = (P.groups.each i k).0 h in (omega (arith, p.0), kept k p.0 ∙ p.1)),
          (λ p. ⊎_elim
              (λ e. absurd (other (sym p.1 ∙ ap (at (set P.class P.len c)) e ∙ last)))
              (λ before. (P.groups.each i k).1 (omega (arith, p.0, before), sym (kept k (omega (arith, p.0, before))) ∙ p.1))
              (cases_eq k P.len)),
        ))
        d;
  }

  pub joined-low : (k : ℕ) → k < P.len + 1 → at (set P.class P.len c) k < max P.classes (c + 1)
  joined-low k h = ⊎_elim
      (λ e. let l = ap (at (set P.class P.len c)) e ∙ last in omega arith)
      (λ other. let l = kept k (omega arith) in let b = P.low k (omega arith) in omega arith)
      (cases_eq k P.len)

  pub joined-some : (d : ℕ) → d < max P.classes (c + 1) → (set_at (set P.members c x) d).bits ≡ 0 → ⊥
  joined-some d h = after_set none P.members c x wide (λ i z. i < max P.classes (c + 1) → z.bits ≡ 0 → ⊥)
      (λ _ e. none_in P.len (subst (λ (b : ℕ). On b P.len) e ((with' P.len).1 (inr (refl, room)))))
      (λ i other l. P.some i (omega (arith, l, other)))
      d h

-- the numbers of the items below n, and that of one item more
pub ranked_more : (n m c m' : ℕ) (f f' : ℕ → ℕ) → Ranked n f m → c ≤ m → f' n ≡ c → ((k : ℕ) → k < n → f' k ≡ f k) → m' ≡ max m (c + 1) → Ranked (n + 1) f' m'
ranked_more n m c m' f f' R there is kept more = ⊎_elim
    (λ old.
    let j = R.member c old in
    let e : m ≡ m' = omega arith in
    subst (λ x. Ranked (n + 1) f' x) e
    (number_old L (λ i k e. sym e) (λ i j k e g. e ∙ g) n m refl f f' N kept j.0 j.1 (kept j.0 j.1 ∙ j.2 ∙ sym is) (is ∙ sym j.2)).ranked)
    (λ new.
    let e : m + 1 ≡ m' = omega arith in
    subst (λ x. Ranked (n + 1) f' x) e
    (number_new L (λ i k e. sym e) (λ i j k e g. e ∙ g) n m refl f f' N kept (λ j h e. let b = R.below j h in let k = kept j h in omega arith) (omega arith)).ranked)
    (cases_lt c m)
  where
    L : ℕ → ℕ → Type 0
    L i j = f' i ≡ f' j

    N : Numbering L n f m
    N = record { ranked = R; same = λ s t h k. ((λ e. kept s h ∙ e ∙ sym (kept t k)), (λ e. sym (kept s h) ∙ e ∙ kept t k)) }

-- the number of the next item is that of a class of the items before it, or the next: one past that would be left out
pub next_there : (P : Partition) (number : List ℕ) (n m k : ℕ) → Ranked n (at number) m → k < n → P.len ≡ k → ((j : ℕ) → j < k → at P.class j ≡ at number j) →
    at number k ≤ P.classes
next_there P number n m k R h items same = ⊎_elim
    (λ past.
    let t = R.order k P.classes h past in
    let s = same t.0 t.1 in
    let b = P.low t.0 (omega (arith, t.1)) in
    absurd (omega (arith, t.2)))
    (λ l. l)
    (cases_lt P.classes (at number k))
