-- The reduced model of a settled relation: there is one, it is well formed, and there is no other.
use Rattle.std.proofs.Common.{◌≡◌, ℕ, ◌<◌, ◌≤◌, ◌⊎◌, ◌↔◌, List, [], length, sym, refl, ◌∙◌, subst, inl, inr, arith}
use mathlib.Core.Logic.Dec
use native.Mathlib.Decide.{ℕ_discrete, dec_lt}
use Rattle.std.specs.List.{AllByRecursion}
use Rattle.std.proofs.ByRecursion.{All-from_get_or}
use Rattle.kripke.specs.Words.{SameWords}
use Rattle.kripke.specs.Models.{Frame, Kripke, WellFormed, Lands, nowhere}
use Rattle.kripke.specs.Paths.{Move}
use Rattle.kripke.specs.Relation.{ST, NEXT, LOOP, Related, Stable}
use Rattle.kripke.specs.Numbering.{First, Ranked, Numbering}
use Rattle.kripke.specs.Reduced.{Reduces}
use Rattle.kripke.proofs.Finite.{some_below, dec_or}
use Rattle.kripke.proofs.Counting.{chosen}
use Rattle.kripke.proofs.Ranking.{ranked_few, first_member}
use Rattle.kripke.proofs.Roads.{dec_move, dec_ST}
use Rattle.kripke.proofs.Stability.{loop_stays}
use Rattle.kripke.proofs.Truth.{dec_stays}
use Rattle.kripke.proofs.Deciding.{dec_related}
use Rattle.kripke.proofs.Sampling.{Sampled, sampled_reduces}
use Rattle.kripke.proofs.Picking.{In, Picks, pick, rising_same}

module _ (F : Frame) (C : ℕ → ℕ → Type 0) (d : (s t : ℕ) → Dec (C s t)) where
  dec-LOOP : (s : ℕ) → s < F.size → Dec (LOOP F C s)
  dec-LOOP s h = let l = loop_stays F C s h in Dec.of_iff (l.1, l.0) (dec_stays F (C s) (d s) F.size s)

  dec-NEXT : (s t : ℕ) → Dec (NEXT F C s t)
  dec-NEXT s t =
      Dec.of_iff ((λ p. (p.1.0, p.0, p.1.2.0, p.1.2.1)), (λ x. (x.1, (x.0, x.3.1, (x.2, x.3)))))
      (Dec.and (Dec.not (dec_ST F C d s t))
      (some_below F.size (λ u. ST F C s u × Move F u t) (λ u. Dec.and (dec_ST F C d s u) (dec_move F u t))))

module _ (M : Kripke) (formed : WellFormed M) (r m : ℕ) (c : ℕ → ℕ) (N : Numbering (Related M r) M.frame.size c m) where
  abbrev F : Frame
  F = M.frame

  abbrev C : ℕ → ℕ → Type 0
  C = Related M r

  firsts : (f : ℕ → ℕ) × ((i : ℕ) → i < m → First F.size c i (f i))
  firsts = chosen m (First F.size c) (λ i h. first_member F.size m c N.ranked i h)

  abbrev sample : ℕ → ℕ
  sample = firsts.0

  -- the class j is in NEXT of the sample of the class i
  abbrev Onward : ℕ → ℕ → Type 0
  Onward i j = (t : ℕ) × NEXT F C (sample i) t × (c t ≡ j)

  -- there is to be a move from the class i to the class j
  abbrev Linked : ℕ → ℕ → Type 0
  Linked i j = ((j ≡ i) × LOOP F C (sample i)) ⊎ ((j ≡ i → ⊥) × Onward i j)

  dec-linked : (i : ℕ) → i < m → (j : ℕ) → Dec (Linked i j)
  dec-linked i h j =
      let d = dec_related M formed r in
      let next = Dec.of_iff ((λ p. (p.0, p.2.0, p.2.1)), (λ x. (x.0, x.1.3.2, (x.1, x.2))))
      (some_below F.size (λ t. NEXT F C (sample i) t × (c t ≡ j)) (λ t. Dec.and (dec-NEXT F C d (sample i) t) (ℕ_discrete (c t) j))) in
      dec_or (Dec.and (ℕ_discrete j i) (dec-LOOP F C d (sample i) (firsts.1 i h).state)) (Dec.and (Dec.not (ℕ_discrete j i)) next)

  linked-row : (i : ℕ) → Dec (i < m) → List ℕ
  linked-row i (yes h) = (pick (Linked i) (dec-linked i h) m 0).0
  linked-row i (no o) = []

  row-picks : (i : ℕ) → i < m → (e : Dec (i < m)) → Picks 0 m (Linked i) (linked-row i e)
  unfolding linked-row
  row-picks i h (yes k) = (pick (Linked i) (dec-linked i k) m 0).1
  row-picks i h (no o) = absurd (o h)

  row-none : (i : ℕ) → m ≤ i → (e : Dec (i < m)) → linked-row i e ≡ []
  unfolding linked-row
  row-none i h (yes k) = absurd (omega arith)
  row-none i h (no o) = refl

  row-each : (P : List ℕ → Type 0) → P [] → ((i : ℕ) → i < m → (l : List ℕ) → Picks 0 m (Linked i) l → P l) → (i : ℕ) (e : Dec (i < m)) → P (linked-row i e)
  unfolding linked-row
  row-each P none some i (yes k) = let p = pick (Linked i) (dec-linked i k) m 0 in some i k p.0 p.1
  row-each P none some i (no o) = none

  quotient : Kripke
  quotient = record {
    frame = record { size = m; row = λ i. linked-row i (dec_lt i m) };
    labels = record { count = M.labels.count; words = λ i. M.labels.words (sample i) };
  }

  quotient-move : (i j : ℕ) → i < m → j < m → Move quotient.frame i j ↔ Linked i j
  unfolding quotient
  quotient-move i j h k =
      let p = row-picks i h (dec_lt i m) in (
        (λ q. p.right j (q.0, q.3, q.4)),
        (λ q. let x = p.whole j (omega arith) (omega arith) q in (x.0, h, k, x.1, x.2)),
      )

  quotient-sampled : Sampled M C c m quotient
  unfolding quotient
  quotient-sampled = record {
    sized = refl;
    spoken = refl;
    sample = sample;
    member = λ i h. let f = firsts.1 i h in (f.state, f.has);
    says = λ i h a. refl;
    goes = λ i j h k other. let q = quotient-move i j h k in (
      (λ p. elim (q.0 p) [ inl e ↦ absurd (other e.0) | inr e ↦ e.1 ]),
      (λ n. q.1 (inr (other, n))),
    );
    turns = λ i h. let q = quotient-move i i h h in (
      (λ p. elim (q.0 p) [ inl e ↦ e.1 | inr e ↦ absurd (e.0 refl) ]),
      (λ l. q.1 (inl (refl, l))),
    );
    rising = λ i h. (row-picks i h (dec_lt i m)).rising;
    lands = λ i k h l. let b = (row-picks i h (dec_lt i m)).high k l in omega arith;
  }

  quotient-formed : WellFormed quotient
  unfolding quotient
  quotient-formed = record {
    frame = record {
      few_states = omega (arith, ranked_few F.size m c N.ranked, formed.frame.few_states);
      few_moves = λ i. row-each (λ l. length l ≤ 4096) (omega arith)
          (λ i h l p. omega (arith, p.short, ranked_few F.size m c N.ranked, formed.frame.few_states)) i (dec_lt i m);
      lands = λ i. row-each (AllByRecursion (Lands m)) tt
          (λ i h l p. All-from_get_or (Lands m) l nowhere (λ k b. inl (let e = p.high k b in omega arith))) i (dec_lt i m);
      no_moves = λ i h. row-none i h (dec_lt i m);
    };
    labels = record { few_words = formed.labels.few_words; within = λ i. formed.labels.within (sample i) };
  }

  pub reduced_there : Stable M r → (R : Kripke) × WellFormed R × Reduces M C c m R
  reduced_there stable = (quotient, quotient-formed, sampled_reduces M r m c quotient stable N quotient-sampled)

-- two reduced models: what is in a row of the one is in that of the other, and their words are the same
module _ (M : Kripke) (C : ℕ → ℕ → Type 0) (m : ℕ) (c : ℕ → ℕ) (R X : Kripke) (A : Reduces M C c m R) (B : Reduces M C c m X) where
  same_move : (i j : ℕ) → i < m → j < m → Move R.frame i j → Move X.frame i j
  same_move i j h k p =
      elim (ℕ_discrete j i) [
        | yes e ↦ subst (λ w. Move X.frame i w) (sym e) ((B.turns i h).1 ((A.turns i h).0 (subst (λ w. Move R.frame i w) e p)))
        | no o ↦ (B.goes i j h k o).1 ((A.goes i j h k o).0 p)
      ]

  same_row : (i : ℕ) → i < m → (x : ℕ) → In (R.frame.row i) x → In (X.frame.row i) x
  same_row i h x p =
      let k : x < m = subst (λ w. w < m) p.2 (A.lands i p.0 h p.1) in
      let q = same_move i x h k (p.0, rw A.sized h, rw A.sized k, p.1, p.2) in
      (q.0, q.3, q.4)

  same_words : Ranked M.frame.size c m → (i : ℕ) → i < m → SameWords (R.labels.words i) (X.labels.words i)
  same_words ranked i h a =
      let s = first_member M.frame.size m c ranked i h in
      A.says i s.0 s.1 a ∙ sym (B.says i s.0 s.1 a)

pub reduced_once : (M : Kripke) (C : ℕ → ℕ → Type 0) (m : ℕ) (c : ℕ → ℕ) (R X : Kripke) → Ranked M.frame.size c m →
    Reduces M C c m R → Reduces M C c m X →
    (i : ℕ) → i < m → SameWords (R.labels.words i) (X.labels.words i) × (R.frame.row i ≡ X.frame.row i)
reduced_once M C m c R X ranked A B i h = (
  same_words M C m c R X A B ranked i h,
  rising_same (R.frame.row i) (X.frame.row i) (A.rising i h) (B.rising i h)
      (λ x. (same_row M C m c R X A B i h x, same_row M C m c X R B A i h x)),
)
