-- For each state and each round a formula, nested no deeper than the round, that holds at just the states related to it; so what a round parts is told apart, and C_r can be decided.
use Rattle.std.proofs.Common.{◌≡◌, ℕ, zero, suc, ◌<◌, ◌≤◌, Bool, true, false, ◌⊎◌, ◌↔◌, sym, refl, ◌∙◌, subst, inl, inr, arith}
use mathlib.Core.Logic.Dec
use native.Mathlib.Decide.{ℕ_discrete, dec_lt}
use Rattle.kripke.specs.Models.{Frame, Kripke, WellFormed, Alike}
use Rattle.kripke.specs.Equivalence.{Equivalence}
use Rattle.kripke.specs.Paths.{Move}
use Rattle.kripke.specs.Formulas.{Formula, top, word, neg, or, until, globally, depth, Holds}
use Rattle.kripke.specs.Relation.{ST, LOOP, Matched, Refined, Related}
use Rattle.kripke.proofs.Paths.{trail_map, stays_map, until_behind, until_split}
use Rattle.kripke.proofs.Rounds.{st_related, st_more, related_equivalence}
use Rattle.kripke.proofs.Stability.{loop_stays}
use Rattle.kripke.proofs.Truth.{dec_holds}

-- f and g; each of g 0 to g (n - 1); f or its negation, as the decision has it
both : Formula → Formula → Formula
both f g = neg (or (neg f) (neg g))

all : ℕ → (ℕ → Formula) → Formula
all zero g = top
all (suc n) g = both (g n) (all n g)

side : {A : Type 0} → Dec A → Formula → Formula
side (yes a) f = f
side (no o) f = neg f

side_depth : {A : Type 0} (d : Dec A) (f : Formula) → depth (side d f) ≡ depth f
unfolding side
side_depth (yes a) f = refl
side_depth (no o) f = refl

all-depth : (n : ℕ) (g : ℕ → Formula) (k : ℕ) → ((i : ℕ) → depth (g i) ≤ k) → depth (all n g) ≤ k
unfolding all both
all-depth zero g k h = omega arith
all-depth (suc n) g k h = omega (arith, h n, all-depth n g k h)

certain : {A : Type 0} → Dec A → ((A → ⊥) → ⊥) → A
certain (yes a) h = a
certain (no o) h = absurd (h o)

module _ (M : Kripke) where
  both-holds : (f g : Formula) (s : ℕ) → Holds M (both f g) s ↔ (Holds M f s × Holds M g s)
  unfolding both
  both-holds f g s = (
    (λ h. (certain (dec_holds M f s) (λ n. h (inl n)), certain (dec_holds M g s) (λ n. h (inr n)))),
    (λ h k. elim k [ inl n ↦ n h.0 | inr n ↦ n h.1 ]),
  )

  all-holds : (n : ℕ) (g : ℕ → Formula) (s : ℕ) → Holds M (all n g) s ↔ ((i : ℕ) → i < n → Holds M (g i) s)
  unfolding all
  all-holds zero g s = ((λ _ i h. absurd (omega arith)), (λ _. tt))
  all-holds (suc n) g s =
      let b = both-holds (g n) (all n g) s in
      let rest = all-holds n g s in (
        (λ h i l. elim (ℕ_discrete i n) [
          | yes e ↦ subst (λ i. Holds M (g i) s) (sym e) (b.0 h).0
          | no o ↦ rest.0 (b.0 h).1 i (omega arith)
        ]),
        (λ h. b.1 (h n (omega arith), rest.1 (λ i l. h i (omega arith)))),
      )

  -- as s has it
  agreeing : Formula → ℕ → Formula
  agreeing f s = side (dec_holds M f s) f

  side-holds : (f : Formula) (s t : ℕ) (d : Dec (Holds M f s)) → Holds M (side d f) t ↔ (Holds M f s ↔ Holds M f t)
  unfolding side
  side-holds f s t (yes a) = ((λ b. (λ _. b, λ _. a)), (λ e. e.0 a))
  side-holds f s t (no o) = ((λ b. (λ a. absurd (o a), λ c. absurd (b c))), (λ e c. o (e.1 c)))

  agreeing-holds : (f : Formula) (s t : ℕ) → Holds M (agreeing f s) t ↔ (Holds M f s ↔ Holds M f t)
  unfolding agreeing
  agreeing-holds f s t = side-holds f s t (dec_holds M f s)

  agreeing-depth : (f : Formula) (s : ℕ) → depth (agreeing f s) ≡ depth f
  unfolding agreeing
  agreeing-depth f s = side_depth (dec_holds M f s) f

-- χ s holds at just the states that C relates to s
abbrev Tells : Kripke → (ℕ → ℕ → Type 0) → (ℕ → Formula) → Type 0
Tells M C χ = (s t : ℕ) → s < M.frame.size → t < M.frame.size → Holds M (χ s) t ↔ C s t

-- for the next round: in the class of s, with EG of it and E(of it U each class) as s has them
further : Kripke → (ℕ → Formula) → ℕ → Formula
further M χ s = both (χ s) (both (agreeing M (globally (χ s)) s) (all M.frame.size (λ u. agreeing M (until (χ s) (χ u)) s)))

module _ (M : Kripke) (C : ℕ → ℕ → Type 0) (E : Equivalence M.frame.size C) (χ : ℕ → Formula) (T : Tells M C χ) where
  abbrev F : Frame
  F = M.frame

  -- in the class of c, to which t belongs, χ c holds
  says : (c t : ℕ) → C c t → (x : ℕ) → x < F.size → C t x → Holds M (χ c) x
  says c t h x k p = (T c x (E.members c t h).0 k).1 (E.join c t x h p)

  means : (c t : ℕ) → C c t → (x : ℕ) → x < F.size → Holds M (χ c) x → C t x
  means c t h x k p = E.join t c x (E.turn c t h) ((T c x (E.members c t h).0 k).0 p)

  globally-loop : (c t : ℕ) → C c t → Holds M (globally (χ c)) t ↔ LOOP F C t
  globally-loop c t h =
      let l = loop_stays F C t (E.members c t h).1 in (
        (λ p. l.1 (stays_map F (Holds M (χ c)) (C t) (means c t h) F.size t (E.members c t h).1 p)),
        (λ p. stays_map F (C t) (Holds M (χ c)) (says c t h) F.size t (E.members c t h).1 (l.0 p)),
      )

  -- one move from ST(t) to the class of u
  abbrev Leads : ℕ → ℕ → Type 0
  Leads t u = (x v : ℕ) × ST F C t x × Move F x v × C u v

  until-says : (c u t : ℕ) → C c t → Leads t u → Holds M (until (χ c) (χ u)) t
  until-says c u t h l =
      let way = trail_map F (C t) (Holds M (χ c)) (says c t h) l.2.0 t l.0 (E.members c t h).1 l.2.1 in
      until_behind F (Holds M (χ c)) (Holds M (χ u)) l.2.0 0 t l.0 l.1 way l.3 ((T u l.1 (E.members u l.1 l.4).0 l.3.2).1 l.4)

  until-means : (c u t : ℕ) → C c t → u < F.size → Holds M (until (χ c) (χ u)) t → C u t ⊎ Leads t u
  until-means c u t h k p =
      let b = (E.members c t h).1 in
      elim (until_split F (Holds M (χ c)) (Holds M (χ u)) p.0 t p.1) [
        | inl q ↦ inl ((T u t k b).0 q)
        | inr e ↦
            let way = trail_map F (Holds M (χ c)) (C t) (means c t h) e.2 t e.0 b e.3 in
            inr (e.0, e.1, (e.2, way), e.4, (T u e.1 k e.4.2).0 e.5)
      ]

  -- what holds of s holds of t in its class: then the states of NEXT(s) are matched
  matched : (c s t : ℕ) → C c s → C c t → ((u : ℕ) → u < F.size → Holds M (until (χ c) (χ u)) s → Holds M (until (χ c) (χ u)) t) → Matched F C s t
  matched c s t hs ht f u x =
      let near : C s t = E.join s c t (E.turn c s hs) ht in
      let k = x.3.2 in
      -- u itself is not related to s
      let out : C s u → ⊥ = λ q. x.1 (st_more F C E s x.0 u x.2 x.3 q) in
      elim (until-means c u t ht k (f u k (until-says c u s hs (x.0, u, x.2, x.3, E.own u k)))) [
        | inl p ↦ absurd (out (E.join s t u near (E.turn u t p)))
        | inr l ↦ (l.1, (l.0, (λ q. out (E.join s t u near (E.join t l.1 u (st_related F C E t l.1 q) (E.turn u l.1 l.4)))), l.2, l.3), l.4)
      ]

  dec-class : (s t : ℕ) → s < F.size → t < F.size → Dec (C s t)
  dec-class s t h k = Dec.of_iff (T s t h k) (dec_holds M (χ s) t)

  -- and the other way round
  carried : (c s t : ℕ) → C c s → C c t → Matched F C s t → (u : ℕ) → u < F.size → Holds M (until (χ c) (χ u)) s → Holds M (until (χ c) (χ u)) t
  carried c s t hs ht f u k p =
      elim (until-means c u s hs k p) [
        | inl q ↦ at_once q
        | inr l ↦ elim (dec-class s l.1 (E.members c s hs).1 l.3.2) [
          | yes q ↦ at_once (E.join u l.1 s l.4 (E.turn s l.1 q))
          | no out ↦
              let v = f l.1 (l.0, (λ q. out (st_related F C E s l.1 q)), l.2, l.3) in
              until-says c u t ht (v.1.0, v.0, v.1.2, v.1.3, E.join u l.1 v.0 l.4 v.2)
        ]
      ]
    where
      at_once : C u s → Holds M (until (χ c) (χ u)) t
      at_once q = (0, (T u t k (E.members c t ht).1).1 (E.join u s t q (E.join s c t (E.turn c s hs) ht)))

  further-tells : Tells M (Refined F C) (further M χ)
  unfolding further
  further-tells s t h k = (to, from)
    where
      own : C s s
      own = E.own s h

      loop : Formula
      loop = globally (χ s)

      leave : ℕ → Formula
      leave u = until (χ s) (χ u)

      rest : Formula
      rest = all F.size (λ u. agreeing M (leave u) s)

      to : Holds M (further M χ s) t → Refined F C s t
      to w =
          let p = (both-holds M (χ s) (both (agreeing M loop s) rest) t).0 w in
          let q = (both-holds M (agreeing M loop s) rest t).0 p.1 in
          let near = (T s t h k).0 p.0 in
          let e = (agreeing-holds M loop s t).0 q.0 in
          let f : (u : ℕ) → u < F.size → Holds M (leave u) s ↔ Holds M (leave u) t = λ u i. (agreeing-holds M (leave u) s t).0 ((all-holds M F.size (λ u. agreeing M (leave u) s) t).0 q.1 u i) in
          let a = globally-loop s s own in
          let b = globally-loop s t near in (
            near,
            ((λ l. b.0 (e.0 (a.1 l))), (λ l. a.0 (e.1 (b.1 l)))),
            matched s s t own near (λ u i. (f u i).0),
            matched s t s near own (λ u i. (f u i).1),
          )

      from : Refined F C s t → Holds M (further M χ s) t
      from w =
          let a = globally-loop s s own in
          let b = globally-loop s t w.0 in
          (both-holds M (χ s) (both (agreeing M loop s) rest) t).1 (
            (T s t h k).1 w.0,
            (both-holds M (agreeing M loop s) rest t).1 (
              (agreeing-holds M loop s t).1 ((λ p. b.1 (w.1.0 (a.0 p))), (λ p. a.1 (w.1.1 (b.0 p)))),
              (all-holds M F.size (λ u. agreeing M (leave u) s) t).1
                  (λ u i. (agreeing-holds M (leave u) s t).1 (carried s s t own w.0 w.2 u i, carried s t s w.0 own w.3 u i)),
            ),
          )

further_depth : (M : Kripke) (χ : ℕ → Formula) (r : ℕ) → ((s : ℕ) → depth (χ s) ≤ r) → (s : ℕ) → depth (further M χ s) ≤ suc r
unfolding further both
further_depth M χ r d s =
    let leave = all-depth M.frame.size (λ u. agreeing M (until (χ s) (χ u)) s) (suc r)
    (λ u. omega (arith, agreeing-depth M (until (χ s) (χ u)) s, d s, d u)) in
    omega (arith, d s, agreeing-depth M (globally (χ s)) s)

-- the formula of the class of s after r rounds
pub characteristic : Kripke → ℕ → ℕ → Formula
characteristic M zero s = all M.labels.count (λ a. agreeing M (word a) s)
characteristic M (suc r) s = further M (characteristic M r) s

pub characteristic_depth : (M : Kripke) (r s : ℕ) → depth (characteristic M r s) ≤ r
unfolding characteristic
characteristic_depth M zero s = all-depth M.labels.count (λ a. agreeing M (word a) s) 0 (λ a. omega (arith, agreeing-depth M (word a) s))
characteristic_depth M (suc r) s = further_depth M (characteristic M r) r (characteristic_depth M r) s

same_bool : (a b : Bool) → ((a ≡ true) ↔ (b ≡ true)) → a ≡ b
same_bool true b e = sym (e.0 refl)
same_bool false true e = e.1 refl
same_bool false false e = refl

words_tell : (M : Kripke) → WellFormed M → Tells M (Alike M) (characteristic M zero)
unfolding characteristic
words_tell M formed s t h k =
    let p = all-holds M M.labels.count (λ a. agreeing M (word a) s) t in (
      (λ w. (
        h,
        k,
        λ a. elim (dec_lt a M.labels.count) [
          | yes l ↦ same_bool (M.labels.words s a) (M.labels.words t a) ((agreeing-holds M (word a) s t).0 (p.0 w a l))
          | no o ↦ formed.labels.within s a (omega arith) ∙ sym (formed.labels.within t a (omega arith))
        ],
      )),
      (λ e. p.1 (λ a _. (agreeing-holds M (word a) s t).1 ((λ x. sym (e.2 a) ∙ x), (λ x. e.2 a ∙ x)))),
    )

pub characteristic_tells : (M : Kripke) → WellFormed M → (r : ℕ) → Tells M (Related M r) (characteristic M r)
unfolding characteristic
characteristic_tells M formed zero = words_tell M formed
characteristic_tells M formed (suc r) =
    further-tells M (Related M r) (related_equivalence M r) (characteristic M r) (characteristic_tells M formed r)

-- what r rounds part, a formula nested at most r deep tells apart
pub parted : (M : Kripke) → WellFormed M → (r s t : ℕ) → s < M.frame.size → t < M.frame.size → (Related M r s t → ⊥) →
    (f : Formula) × (depth f ≤ r) × Holds M f s × (Holds M f t → ⊥)
parted M formed r s t h k apart = (
  characteristic M r s,
  characteristic_depth M r s,
  (characteristic_tells M formed r s s h h).1 ((related_equivalence M r).own s h),
  (λ p. apart ((characteristic_tells M formed r s t h k).0 p)),
)
