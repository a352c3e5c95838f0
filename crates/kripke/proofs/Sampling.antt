-- Where one more round parts nothing, one member of each class speaks for all: what its NEXT and LOOP give is the reduced model.
use Rattle.std.proofs.Common.{◌≡◌, ℕ, ◌<◌, ◌↔◌, length, get_or, sym, ◌∙◌, subst, arith}
use Rattle.kripke.specs.Words.{SameWords}
use Rattle.kripke.specs.Models.{Kripke, nowhere}
use Rattle.kripke.specs.Paths.{Move}
use Rattle.kripke.specs.Relation.{NEXT, LOOP, Related, Stable}
use Rattle.kripke.specs.Numbering.{Numbering}
use Rattle.kripke.specs.Reduced.{Rising, Reduces}
use Rattle.kripke.proofs.Rounds.{related_down}

-- R as one member of each class has it
pub record Sampled (M : Kripke) (C : ℕ → ℕ → Type 0) (c : ℕ → ℕ) (m : ℕ) (R : Kripke) : Type 0 where
  pub sized : R.frame.size ≡ m
  pub spoken : R.labels.count ≡ M.labels.count
  pub sample : ℕ → ℕ
  pub member : (i : ℕ) → i < m → (sample i < M.frame.size) × (c (sample i) ≡ i)
  pub says : (i : ℕ) → i < m → SameWords (R.labels.words i) (M.labels.words (sample i))
  pub goes : (i j : ℕ) → i < m → j < m → (j ≡ i → ⊥) → Move R.frame i j ↔ ((t : ℕ) × NEXT M.frame C (sample i) t × (c t ≡ j))
  pub turns : (i : ℕ) → i < m → Move R.frame i i ↔ LOOP M.frame C (sample i)
  pub rising : (i : ℕ) → i < m → Rising (R.frame.row i)
  pub lands : (i k : ℕ) → i < m → k < length (R.frame.row i) → get_or (R.frame.row i) k nowhere < m

module _ (M : Kripke) (r m : ℕ) (c : ℕ → ℕ) (R : Kripke) (stable : Stable M r) (N : Numbering (Related M r) M.frame.size c m)
    (S : Sampled M (Related M r) c m R) where
  -- a member and the sample of its class
  sampled : (i s : ℕ) → i < m → s < M.frame.size → c s ≡ i → Related M r s (S.sample i)
  sampled i s h l e = let o = S.member i h in (N.same s (S.sample i) l o.0).0 (e ∙ sym o.1)

  pub sampled_reduces : Reduces M (Related M r) c m R
  sampled_reduces = record {
    sized = S.sized;
    spoken = S.spoken;
    says = λ i s f a.
        let h : i < m = subst (λ x. x < m) f.has (N.ranked.below s f.state) in
        S.says i h a ∙ sym ((related_down M r 0 s (S.sample i) (omega arith) (sampled i s h f.state f.has)).2 a);
    goes = λ i j h k other.
        let g = S.goes i j h k other in
        let o = S.member i h in (
          (λ p. let t = g.0 p in (S.sample i, t.0, o.0, o.1, t.1, t.2)),
          (λ p.
              let near = stable p.0 (S.sample i) (sampled i p.0 h p.2 p.3) in
              let v = near.2 p.1 p.4 in
              let same = (N.same p.1 v.0 p.4.3.2 v.1.3.2).1 v.2 in
              g.1 (v.0, v.1, sym same ∙ p.5)),
        );
    turns = λ i h.
        let g = S.turns i h in
        let o = S.member i h in (
          (λ p. (S.sample i, o.0, o.1, g.0 p)),
          (λ p. g.1 ((stable p.0 (S.sample i) (sampled i p.0 h p.1 p.2)).1.0 p.3)),
        );
    rising = S.rising;
    lands = S.lands;
  }
