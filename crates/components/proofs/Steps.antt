-- The steps of the search, each of which lessens what is left.
use Rattle.std.proofs.Common.{◌≡◌, ℕ, true, not, eqb, ◌↔◌, ◌+◌, ◌^◌, ◌<◌, List, [], length, Option, Some, None, sym, ap, ◌∙◌, subst, inl, ⊎_elim, arith}
use Rattle.std.specs.Prelude.{MatchOption}
use Rattle.std.proofs.lemmas.Bool.{eqb-false, not-true}
use Rattle.sets.specs.declared.Set.{Set}
use Rattle.sets.specs.Sets.{In}
use Rattle.sets.proofs.Bits.{On as OnBit, some_in, none_in}
use Rattle.stack.specs.Held.{Held, pushed}
use Rattle.components.specs.Search.{On, Going, Resting, Entered, Joins, Shuts, RoomForOne, Next, walking, walked, amount}
use Rattle.components.specs.declared.marks.Walk.{Walk}
use Rattle.components.specs.declared.search.Search.{Search}
use Rattle.components.proofs.Laws.{goes}
use Rattle.components.proofs.Amount.{amount_some}
use Rattle.components.proofs.Enter.{within, less, entered}
use Rattle.components.proofs.Join.{joined}
use Rattle.components.proofs.Close.{closed}

-- a set that is not empty has a member
pub member : (x : Set) → x.bits < 2 ^ 128 → 0 < x.bits → (t : ℕ) × In x t
member x fits some = let r = some_in 128 x.bits fits some in (r.0, r.2)

-- one that is empty has none
pub no_member : (x : Set) → x.bits ≡ 0 → (t : ℕ) → In x t → ⊥
no_member x e t h = none_in t (subst (λ (b : ℕ). OnBit b t) e h)

-- w moves to a state that is on the way before it
abbrev pub Back : Search → Walk → Type 0
Back S w = (t : ℕ) × In w.moves t × In S.undone t × (In w.states t → ⊥) × (In S.unmet t → ⊥)

-- there is one where some state is ahead, and none of those ahead is still to be met
pub back : (S : Search) (w : Walk) (there ahead fresh : Set) → ((t : ℕ) → In there t ↔ (In w.moves t × In S.undone t)) →
    ((t : ℕ) → In ahead t ↔ (In there t × (In w.states t → ⊥))) → ((t : ℕ) → In fresh t ↔ (In ahead t × In S.unmet t)) →
    ahead.bits < 2 ^ 128 → true ≡ not (eqb ahead.bits 0) → fresh.bits ≡ 0 → Back S w
back S w there ahead fresh is-there is-ahead is-fresh fits some none =
    let more = eqb-false ahead.bits 0 (not-true (eqb ahead.bits 0) (sym some)) in
    let m = member ahead fits (omega (arith, more)) in
    let a = (is-ahead m.0).0 m.1 in
    let b = (is-there m.0).0 a.0 in
    (m.0, b.0, b.1, a.1, λ u. no_member fresh none m.0 ((is-fresh m.0).1 (m.1, u)))

-- a state that is not met finds room
pub room : (rows : List Set) (S : Search) (t : ℕ) → Going rows S → In S.unmet t → (t < 128) × (t < length rows) × RoomForOne S
room rows S t G new =
    let l = within rows S t G new in
    (omega (arith, l, G.few), l, omega (arith, amount_some (length rows) S.unmet t l new, G.numbers.0, G.numbers.1))

-- a walk begins
pub begun : (rows : List Set) (S S' : Search) (t : ℕ) → Resting rows S → In S.unmet t → Entered rows S t S' → Going rows S'
begun rows S S' t R new X = entered rows S t R.0 new S' X (λ s o. absurd (subst (λ ws. On ws s) R.1 o))

module _ (rows : List Set) (S : Search) (w : Walk) (G : Going rows (walking S w)) where
  -- it goes on to t
  pub enter_step : (walk : Held Walk) (S' : Search) (t : ℕ) → walk ≡ pushed S.walk w → Entered rows (record S { walk = walk }) t S' →
      In w.moves t → In S.unmet t → Next rows (walking S w) S'
  enter_step walk S' t e X m new =
      let Y : Entered rows (walking S w) t S' = subst (λ (h : Held Walk). Entered rows (record S { walk = h }) t S') e X in
      let fewer = less rows (walking S w) t G new S' Y in
      let long : length S'.walk.held ≡ length S.walk.held + 2 = ap (λ (T : Search). length T.walk.held) Y.rest ∙ omega arith in
      record {
        going = entered rows (walking S w) t G new S' Y
            (goes rows w S.walk.held G.way (λ s i. G.states s (G.on s (inl i))) t m (within rows (walking S w) t G new));
        falls = omega (arith, fewer, long);
        seen = omega (arith, fewer);
      }

  -- it goes back
  pub join_step : (S' : Search) → Joins S w S' → Back S w → Next rows (walking S w) S'
  join_step S' X b =
      let long : length S'.walk.held ≡ length X.others.held + 1 = ap (λ (T : Search). length T.walk.held) X.rest ∙ omega arith in
      let was : length S.walk.held ≡ length X.others.held + 1 = ap (λ (h : Held Walk). length h.held) X.two ∙ omega arith in
      let same : amount (length rows) S'.unmet ≡ amount (length rows) S.unmet = ap (λ (T : Search). amount (length rows) T.unmet) X.rest in
      record {
        going = joined rows S w S' X G b.0 b.1 b.2 b.3 b.4;
        falls = omega (arith, long, was, same);
        seen = omega (arith, same);
      }

  -- there is something to go back to
  pub may_join : Back S w → S.walk.held ≡ [] → ⊥
  may_join b e = ⊎_elim b.3 (λ o. subst (λ ws. On ws b.0) e o) (G.met b.0 b.2 b.4)

  popped : (S₁ : Search) (walk : Held Walk) (o : Option Walk) → MatchOption o ((S₁.walk.held ≡ []) × (walk ≡ S₁.walk)) (λ x. S₁.walk ≡ pushed walk x) →
      walked (record S₁ { walk = walk }) o ≡ S₁
  popped S₁ walk None p = ap (λ (h : Held Walk). record S₁ { walk = h }) p.1
  popped S₁ walk (Some x) p = ap (λ (h : Held Walk). record S₁ { walk = h }) (sym p)

  -- it leaves w, which is a component
  pub close_step : (S₁ : Search) (walk : Held Walk) (o : Option Walk) → Shuts S w S₁ → ((t : ℕ) → In w.moves t → In S.undone t → In w.states t) →
      MatchOption o ((S₁.walk.held ≡ []) × (walk ≡ S₁.walk)) (λ x. S₁.walk ≡ pushed walk x) → Next rows (walking S w) (walked (record S₁ { walk = walk }) o)
  close_step S₁ walk o X inside p =
      let long : length S₁.walk.held ≡ length S.walk.held = ap (λ (T : Search). length T.walk.held) X.rest in
      let same : amount (length rows) S₁.unmet ≡ amount (length rows) S.unmet = ap (λ (T : Search). amount (length rows) T.unmet) X.rest in
      subst (Next rows (walking S w)) (sym (popped S₁ walk o p)) (record {
        going = closed rows S w S₁ X G inside;
        falls = omega (arith, long, same);
        seen = omega (arith, same);
      })
