-- The newest stretch of the way moves nowhere but into itself and into components: it is a component.
use Rattle.std.proofs.Common.{◌≡◌, ℕ, ◌<◌, ◌++◌, ◌⊎◌, ◌↔◌, List, length, sym, ap, ◌∙◌, subst, inl, inr, ⊎_elim, arith}
use Rattle.std.proofs.lemmas.Bool.{cases_lt}
use Rattle.std.proofs.lemmas.List.{length-append}
use Rattle.sets.specs.declared.Set.{Set}
use Rattle.sets.specs.Sets.{In}
use Rattle.sets.proofs.Bits.{in_dec}
use Rattle.stack.specs.Held.{pushed}
use Rattle.components.specs.Reach.{Leads}
use Rattle.components.specs.Rows.{Edge}
use Rattle.components.specs.Numbers.{number}
use Rattle.components.specs.Search.{Stacked, Done, Turns, Going, Shuts}
use Rattle.components.specs.declared.marks.Walk.{Walk}
use Rattle.components.specs.declared.search.Search.{Search}
use Rattle.components.proofs.Laws.{along, any_some}

module _ (rows : List Set) (S : Search) (w : Walk) (S' : Search) (X : Shuts S w S') (G : Going rows (record S { walk = pushed S.walk w }))
    (inside : (t : ℕ) → In w.moves t → In S.undone t → In w.states t) where
  abbrev E : ℕ → ℕ → Type 0
  E = Edge rows

  was : (s : ℕ) → Done rows S' s → Done rows S s ⊎ In w.states s
  was s d = ⊎_elim inr (λ n. inl (d.0, λ o. d.1 ((X.undone s).1 (o, n)))) (in_dec w.states.bits s)

  not : (s : ℕ) → Done rows S s → In w.states s → ⊥
  not s d p = d.1 (G.on s (inl p))

  new : (s : ℕ) → In w.states s → Done rows S' s
  new s p = (G.states s (G.on s (inl p)), λ o. ((X.undone s).0 o).1 p)

  old : (s : ℕ) → Done rows S s → Done rows S' s
  old s d = (d.0, λ o. d.1 ((X.undone s).0 o).0)

  kept : (s : ℕ) → Done rows S s → number S'.component s ≡ number S.component s
  kept s d = X.others s (not s d)

  -- a move of a state that is done goes to one
  on-done : (s t : ℕ) → E s t → Done rows S s → Done rows S t
  on-done s t e d = (e.1, G.shut s t d e)

  out : (s t : ℕ) → In w.states s → E s t → In w.states t ⊎ Done rows S t
  out s t p e = ⊎_elim
      (λ o. inl (inside t ((G.way.0.moves t).1 (s, p, e.2)) o))
      (λ n. inr (e.1, n))
      (in_dec S.undone.bits t)

  shut' : (s t : ℕ) → Done rows S' s → E s t → In S'.undone t → ⊥
  shut' s t d e o =
      let u = (X.undone t).0 o in
      ⊎_elim (λ a. G.shut s t a e u.0) (λ p. ⊎_elim u.1 (λ b. b.1 u.0) (out s t p e)) (was s d)

  same' : (s t : ℕ) → Done rows S' s → Done rows S' t → number S'.component s ≡ number S'.component t → Leads E s t
  same' s t ds dt q = ⊎_elim
      (λ a. ⊎_elim
      (λ b. G.same s t a b (sym (kept s a) ∙ q ∙ kept t b))
      (λ b. absurd (omega (arith, G.below s a, kept s a, X.closed t b)))
      (was t dt))
      (λ a. ⊎_elim
      (λ b. absurd (omega (arith, G.below t b, kept t b, X.closed s a)))
      (λ b. G.way.0.joined s t a b)
      (was t dt))
      (was s ds)

  clash : (s t : ℕ) → Done rows S s → In w.states t → Leads E s t → ⊥
  clash s t d p l = not t (along (Done rows S) (λ a b e. on-done a b e) l d) p

  apart' : (s t : ℕ) → Done rows S' s → Done rows S' t → Leads E s t → Leads E t s → number S'.component s ≡ number S'.component t
  apart' s t ds dt l m = ⊎_elim
      (λ a. ⊎_elim
      (λ b. kept s a ∙ G.apart s t a b l m ∙ sym (kept t b))
      (λ b. absurd (clash s t a b l))
      (was t dt))
      (λ a. ⊎_elim
      (λ b. absurd (clash t s b a m))
      (λ b. X.closed s a ∙ sym (X.closed t b))
      (was t dt))
      (was s ds)

  cyclic' : (d : ℕ) → In S'.cyclic d ↔ Turns rows S' d
  cyclic' d = (
    (λ h. ⊎_elim
        (λ o.
        let p = (G.cyclic d).0 o in
        let b = on-done p.0 p.1 p.3 p.2 in
        (p.0, p.1, old p.0 p.2, p.3, kept p.0 p.2 ∙ p.4, kept p.1 b ∙ p.5))
        (λ n.
        let t : ℕ = n.1.0 in
        let a = (G.way.0.moves t).0 n.1.1 in
        (a.0, t, new a.0 a.1, ((new a.0 a.1).0, (new t n.1.2).0, a.2), X.closed a.0 a.1 ∙ sym n.0, X.closed t n.1.2 ∙ sym n.0))
        ((X.cyclic d).0 h)),
    (λ p. (X.cyclic d).1 (⊎_elim
        (λ a.
        let b = on-done p.0 p.1 p.3 a in
        inl ((G.cyclic d).1 (p.0, p.1, a, p.3, sym (kept p.0 a) ∙ p.4, sym (kept p.1 b) ∙ p.5)))
        (λ a.
        let e : d ≡ S.count = sym p.4 ∙ X.closed p.0 a in
        inr (
          e,
          ⊎_elim
              (λ i. (p.1, (G.way.0.moves p.1).1 (p.0, a, p.3.2), i))
              (λ b. absurd (omega (arith, G.below p.1 b, kept p.1 b, e, p.5)))
              (out p.0 p.1 a p.3),
        ))
        (was p.0 p.2))),
  )

  taken : S'.numbers.held ≡ G.stacked.1
  taken = X.taken G.stacked.0 G.stacked.1 G.stacked.2 G.stacked.3

  -- some are taken off the number stack
  fewer : length S'.numbers.held < length S.numbers.held
  fewer =
      let some = any_some (λ x. x ≡ G.way.0.some.0) G.stacked.0 ((G.stacked.4 G.way.0.some.0).0 G.way.0.some.1) in
      let all : length S.numbers.held ≡ length (G.stacked.0 ++ G.stacked.1) = ap length G.stacked.2 in
      omega (arith, some, all, length-append G.stacked.0 G.stacked.1, ap length taken)

  pub closed : Going rows S'
  closed = subst (Going rows) (sym X.rest) (record {
    way = G.way.3;
    stacked = subst (Stacked S.walk.held) (sym taken) G.stacked.5;
    states = λ s o. G.states s ((X.undone s).0 o).0;
    unmet = λ s h. let p = G.unmet s h in ((X.undone s).1 (p.0, λ q. p.1 (inl q)), λ o. p.1 (inr o));
    on = λ s o. (X.undone s).1 (G.on s (inr o), λ p. G.way.1 s p o);
    met = λ s o n. let p = (X.undone s).0 o in ⊎_elim (λ a. absurd (p.1 a)) (λ b. b) (G.met s p.0 n);
    shut = shut';
    same = same';
    apart = apart';
    below = λ s d. ⊎_elim (λ a. omega (arith, G.below s a, kept s a)) (λ a. omega (arith, X.closed s a)) (was s d);
    used = λ d l. ⊎_elim
        (λ lt. let u = G.used d lt in (u.0, old u.0 u.1, kept u.0 u.1 ∙ u.2))
        (λ ge. let e : S.count ≡ d = omega arith in (G.way.0.some.0, new _ G.way.0.some.1, X.closed _ G.way.0.some.1 ∙ e))
        (cases_lt d S.count);
    later = λ s t d e. ⊎_elim
        (λ a. omega (arith, G.later s t a e, kept s a, kept t (on-done s t e a)))
        (λ a. ⊎_elim
        (λ b. omega (arith, X.closed s a, X.closed t b))
        (λ b. omega (arith, X.closed s a, kept t b, G.below t b))
        (out s t a e))
        (was s d);
    cyclic = cyclic';
    few = G.few;
    wide = X.wide ∙ G.wide;
    numbers = (omega (arith, fewer, G.numbers.0), G.numbers.1);
    walks = (omega (arith, G.walks.0), G.walks.1);
  })
