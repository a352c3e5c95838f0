-- A frame has one gap at most, and none if it is admitted.
use Rattle.std.proofs.Common.{◌≡◌, ℕ, ◌<◌, ◌⊎◌, List, length, sym, refl, ap, subst, inl, inr, ⊎_elim, arith}
use Rattle.std.proofs.lemmas.Bool.{cases_order}
use Rattle.kripke.specs.Models.{Frame, TotalRow}
use Rattle.survey.specs.declared.gaps.Gap.{Gap}
use Rattle.survey.specs.declared.gaps.Gap.TheVariants.{NoStates, TooMany, EmptyRow, Nowhere}
use Rattle.survey.specs.Gaps.{Gaps, Admitted, Sized, TotalBelow, FirstNowhere, OneGap}

-- what is wrong with one row
abbrev Wrong : Frame → ℕ → Type 0
Wrong F s = (length (F.row s) ≡ 0) ⊎ ((k : ℕ) × FirstNowhere (F.row s) k)

wrong_total : (F : Frame) (s : ℕ) → Sized F → Wrong F s → TotalRow F.size (F.row s) → ⊥
wrong_total F s sized w t = ⊎_elim
    (λ e. omega (arith, t.some))
    (λ n. omega (arith, t.lands n.0 n.1.0, n.1.1, sized.1))
    w

-- the first wrong row is one row
first_wrong : (F : Frame) (s t : ℕ) → Sized F → TotalBelow F s → TotalBelow F t → Wrong F s → Wrong F t → s ≡ t
first_wrong F s t sized bs bt ws wt = ⊎_elim (λ e. e)
    (⊎_elim (λ l. absurd (wrong_total F s sized ws (bt s l))) (λ l. absurd (wrong_total F t sized wt (bs t l))))
    (cases_order s t)

first_nowhere : (row : List ℕ) (j k : ℕ) → FirstNowhere row j → FirstNowhere row k → j ≡ k
first_nowhere row j k p q = ⊎_elim (λ e. e)
    (⊎_elim (λ l. absurd (q.2 j l p.1)) (λ l. absurd (p.2 k l q.1)))
    (cases_order j k)

pub gap_once : (F : Frame) (a b : Gap) → Gaps F a → Gaps F b → a ≡ b
gap_once F NoStates NoStates p q = refl
gap_once F NoStates TooMany p q = absurd (omega arith)
gap_once F NoStates (EmptyRow t) p q = absurd (omega (arith, q.0.0))
gap_once F NoStates (Nowhere t k) p q = absurd (omega (arith, q.0.0))
gap_once F TooMany NoStates p q = absurd (omega arith)
gap_once F TooMany TooMany p q = refl
gap_once F TooMany (EmptyRow t) p q = absurd (omega (arith, q.0.1))
gap_once F TooMany (Nowhere t k) p q = absurd (omega (arith, q.0.1))
gap_once F (EmptyRow s) NoStates p q = absurd (omega (arith, p.0.0))
gap_once F (EmptyRow s) TooMany p q = absurd (omega (arith, p.0.1))
gap_once F (EmptyRow s) (EmptyRow t) p q = ap EmptyRow (first_wrong F s t p.0 p.2 q.2 (inl p.3) (inl q.3))
gap_once F (EmptyRow s) (Nowhere t k) p q =
    let e = first_wrong F s t p.0 p.2 q.2 (inl p.3) (inr (k, q.3)) in
    let l : k < length (F.row s) = subst (λ (r : ℕ). k < length (F.row r)) (sym e) q.3.0 in
    absurd (omega (arith, p.3))
gap_once F (Nowhere s j) NoStates p q = absurd (omega (arith, p.0.0))
gap_once F (Nowhere s j) TooMany p q = absurd (omega (arith, p.0.1))
gap_once F (Nowhere s j) (EmptyRow t) p q =
    let e = first_wrong F s t p.0 p.2 q.2 (inr (j, p.3)) (inl q.3) in
    let l : j < length (F.row t) = subst (λ (r : ℕ). j < length (F.row r)) e p.3.0 in
    absurd (omega (arith, q.3))
gap_once F (Nowhere s j) (Nowhere t k) p q =
    let e = first_wrong F s t p.0 p.2 q.2 (inr (j, p.3)) (inr (k, q.3)) in
    let f = first_nowhere (F.row t) j k (subst (λ (r : ℕ). FirstNowhere (F.row r) j) e p.3) q.3 in
    cc

pub gap_never : (F : Frame) (a : Gap) → Gaps F a → Admitted F → ⊥
gap_never F NoStates p q = omega (arith, q.0.0)
gap_never F TooMany p q = omega (arith, q.0.1)
gap_never F (EmptyRow s) p q = wrong_total F s p.0 (inl p.3) (q.1 s p.1)
gap_never F (Nowhere s k) p q = wrong_total F s p.0 (inr (k, p.3)) (q.1 s p.1)

pub one_gap_lem : OneGap
one_gap_lem = record { one = gap_once; none = gap_never }
