-- Items that are each alone in their class have their own numbers.
use Rattle.std.proofs.Common.{◌≡◌, ℕ, zero, suc, ◌+◌, ◌-◌, ◌*◌, ◌^◌, ◌<◌, ◌≤◌, cond, ltb, sym, ap, ◌∙◌, subst, ⊎_elim, not-suc-le-zero, arith}
use Rattle.std.proofs.lemmas.Bool.{cases_eq, cases_lt}
use Rattle.std.proofs.lemmas.Bool.Decides.{nat_tests}
use Rattle.std.proofs.lemmas.Nat.{pow-add}
use Rattle.sets.proofs.Bits.{some_in}
use Rattle.merger.specs.declared.partition.Partition.{Partition}
use Rattle.merger.specs.Grids.{at, set_at}
use Rattle.kripke.specs.Numbering.{Ranked}
use Rattle.kripke.proofs.Counting.{pigeons, chosen}

-- an item's number is at most its own: each lower number has an earlier item
low : (n m : ℕ) (f : ℕ → ℕ) → Ranked n f m → (k : ℕ) → k < n → f k ≤ k
low n m f R k l = ⊎_elim
    (λ past.
    let each : (i : ℕ) → i < k + 1 → (t : ℕ) × ((t < k) × (f t ≡ i)) = λ i h. let p = R.order k i l (omega arith) in (p.0, (p.1, p.2)) in
    let of = chosen (k + 1) (λ i t. (t < k) × (f t ≡ i)) each in
    let few = pigeons k (k + 1) of.0 (λ i h. (of.1 i h).0) (λ i j h g e. sym (of.1 i h).1 ∙ ap f e ∙ (of.1 j g).1) in
    absurd (omega arith))
    (λ le. omega arith)
    (cases_lt k (f k))

-- where each number below d has an item below d, the items below d have their own numbers
own : (n m : ℕ) (f : ℕ → ℕ) → Ranked n f m → (d : ℕ) → d ≤ n → ((i : ℕ) → i < d → (s : ℕ) × (s < d) × (f s ≡ i)) → (k : ℕ) → k < d → f k ≡ k
own n m f R zero in' cover k l = absurd (not-suc-le-zero l)
own n m f R (suc d) in' cover k l =
    let p = cover d (omega arith) in
    let top : f d ≡ d =
    let here : p.0 ≡ d = omega (arith, p.1, p.2, low n m f R p.0 (omega (arith, p.1))) in
    subst (λ x. f x ≡ d) here p.2 in
    ⊎_elim
    (λ e. subst (λ x. f x ≡ x) (sym e) top)
    (λ ne. own n m f R d (omega arith)
    (λ i h.
    let q = cover i (omega arith) in
    let other : q.0 ≡ d → ⊥ = λ e. omega (arith, h, sym q.2 ∙ ap f e ∙ top) in
    (q.0, omega (arith, q.1, other), q.2))
    k (omega arith))
    (cases_eq k d)

pub ranked_alone : (n : ℕ) (f : ℕ → ℕ) → Ranked n f n → (k : ℕ) → k < n → f k ≡ k
ranked_alone n f R = own n n f R n (omega arith) R.member

-- a number below m other than x, as one below m - 1
skipped : ℕ → ℕ → ℕ
skipped x i = cond (ltb i x) i (i - 1)

skipped_apart : (x i j : ℕ) → (i ≡ x → ⊥) → (j ≡ x → ⊥) → skipped x i ≡ skipped x j → i ≡ j
unfolding skipped
skipped_apart x i j a b e = grind (arith, nat_tests)

skipped_low : (x m i : ℕ) → x < m → i < m → (i ≡ x → ⊥) → skipped x i < m - 1
unfolding skipped
skipped_low x m i l h n = grind (arith, nat_tests)

-- g numbers finer classes than f, and as many: then they are the same classes
module _ (n m : ℕ) (f g : ℕ → ℕ) (low-f : (s : ℕ) → s < n → f s < m) (some-f : (c : ℕ) → c < m → (s : ℕ) × (s < n) × (f s ≡ c))
    (low-g : (s : ℕ) → s < n → g s < m) (finer : (s t : ℕ) → s < n → t < n → g s ≡ g t → f s ≡ f t) where
  pub as_fine : (j k : ℕ) → j < n → k < n → f j ≡ f k → g j ≡ g k
  as_fine j k lj lk e = ⊎_elim (λ same. same) (λ apart. absurd (two apart)) (cases_eq (g j) (g k))
    where
      -- a state of each class of f: j of its own, so that none of them has the number of k
      two : (g j ≡ g k → ⊥) → ⊥
      two apart =
          let pick : (c : ℕ) → c < m → (s : ℕ) × ((s < n) × (f s ≡ c) × (g s ≡ g k → ⊥)) = λ c l.
          let p = some-f c l in
          ⊎_elim
          (λ own. (j, (lj, sym own, apart)))
          (λ other. (p.0, (p.1, p.2, λ q. other (sym p.2 ∙ finer p.0 k p.1 lk q ∙ sym e))))
          (cases_eq c (f j)) in
          let of = chosen m (λ c s. (s < n) × (f s ≡ c) × (g s ≡ g k → ⊥)) pick in
          let few = pigeons (m - 1) m (λ c. skipped (g k) (g (of.0 c)))
          (λ c l. skipped_low (g k) m (g (of.0 c)) (low-g k lk) (low-g (of.0 c) (of.1 c l).0) (of.1 c l).2)
          (λ c d l h q.
          let same = skipped_apart (g k) (g (of.0 c)) (g (of.0 d)) (of.1 c l).2 (of.1 d h).2 q in
          sym (of.1 c l).1 ∙ finer (of.0 c) (of.0 d) (of.1 c l).0 (of.1 d h).0 same ∙ (of.1 d h).1) in
          omega (arith, few, low-f j lj)

-- a number has fewer bits than itself
below_power : (n : ℕ) → n < 2 ^ n
below_power zero = omega arith
below_power (suc n) =
    let p : 2 ^ suc n ≡ 2 ^ n * 2 = ap (λ i. 2 ^ i) (let e : suc n ≡ n + 1 = omega arith in e) ∙ pow-add 2 n 1 in
    omega (arith, below_power n, p)

-- each class of a partition has an item
pub has_item : (P : Partition) (c : ℕ) → c < P.classes → (s : ℕ) × (s < P.len) × (at P.class s ≡ c)
has_item P c l =
    let bits : ℕ = (set_at P.members c).bits in
    let some : 0 < bits = ⊎_elim (λ h. h) (λ z. absurd (P.some c l (omega arith))) (cases_lt 0 bits) in
    let s = some_in bits bits (below_power bits) some in
    let p = (P.groups.each c s.0).0 s.2 in
    (s.0, p.0, p.1)

-- a partition that numbers finer classes than another, and as many: then items of one class stay together
pub together_stays : (P P' : Partition) → P'.len ≡ P.len → P'.classes ≡ P.classes →
    ((j k : ℕ) → j < P.len → k < P.len → at P'.class j ≡ at P'.class k → at P.class j ≡ at P.class k) →
    (j k : ℕ) → j < P.len → k < P.len → at P.class j ≡ at P.class k → at P'.class j ≡ at P'.class k
together_stays P P' len many finer =
    as_fine P.len P.classes (at P.class) (at P'.class) P.low (has_item P) (λ s l. subst (λ m. at P'.class s < m) many (P'.low s (omega arith))) finer
