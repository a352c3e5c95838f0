-- States are taken off the number stack and put into a component.
use Rattle.std.proofs.Common.{◌≡◌, ℕ, ◌+◌, ◌<◌, ◌≤◌, ◌++◌, ◌⊎◌, ◌↔◌, List, [], ◌∷◌, length, set, sym, refl, ap, ◌∙◌, subst, inl, inr, ⊎_elim, arith}
use Rattle.std.proofs.lemmas.Bool.{cases_eq}
use Rattle.std.proofs.lemmas.List.{get_or-set_same, get_or-set_other, length-append, length-set}
use Rattle.stack.specs.Held.{Held, pushed}
use Rattle.components.specs.Numbers.{number}
use Rattle.sets.specs.Sets.{In}
use Rattle.components.specs.Search.{Any, Shuts}
use Rattle.components.specs.declared.marks.Walk.{Walk}
use Rattle.components.specs.declared.search.Search.{Search}

-- x is one of the entries
abbrev pub Among : List ℕ → ℕ → Type 0
Among xs s = Any (λ x. x ≡ s) xs

-- of own, left are still to be taken; the others have number c, and whatever is not of own has the number that it had
pub record Left (own rest nums component₀ component : List ℕ) (c : ℕ) : Type 0 where
  pub left : List ℕ
  pub stacked : nums ≡ left ++ rest
  pub some : (s : ℕ) → Among left s → Among own s
  pub taken : (s : ℕ) → Among own s → Among left s ⊎ (number component s ≡ c)
  pub others : (s : ℕ) → (Among own s → ⊥) → number component s ≡ number component₀ s

pub left_all : (own rest nums component : List ℕ) (c : ℕ) → nums ≡ own ++ rest → Left own rest nums component component c
left_all own rest nums component c e = record {
  left = own;
  stacked = e;
  some = λ s a. a;
  taken = λ s a. inl a;
  others = λ s n. refl;
}

-- none is left where no more stand on the stack than rest has
pub left_none : (own rest nums component₀ component : List ℕ) (c : ℕ) → length nums ≤ length rest → (L : Left own rest nums component₀ component c) →
    (nums ≡ rest) × ((s : ℕ) → Among own s → number component s ≡ c)
left_none own rest nums component₀ component c few L = go L.left L.stacked L.taken
  where
    go : (left : List ℕ) → nums ≡ left ++ rest → ((s : ℕ) → Among own s → Among left s ⊎ (number component s ≡ c)) →
        (nums ≡ rest) × ((s : ℕ) → Among own s → number component s ≡ c)
    go [] e t = (e, λ s a. ⊎_elim (λ b. absurd b) (λ h. h) (t s a))
    go (x ∷ left) e t = absurd (omega (arith, ap length e, length-append (x ∷ left) rest, few))

-- one more is taken
pub left_more : (own rest nums' component₀ component : List ℕ) (c x : ℕ) → length rest < length (x ∷ nums') → x < length component →
    Left own rest (x ∷ nums') component₀ component c → Left own rest nums' component₀ (set component x c) c
left_more own rest nums' component₀ component c x more low L = go L.left L.stacked L.some L.taken
  where
    put : number (set component x c) x ≡ c
    put = get_or-set_same component x c 0 low

    else : (s : ℕ) → (s ≡ x → ⊥) → number (set component x c) s ≡ number component s
    else s ne = get_or-set_other component x s c 0 ne

    go : (left : List ℕ) → x ∷ nums' ≡ left ++ rest → ((s : ℕ) → Among left s → Among own s) →
        ((s : ℕ) → Among own s → Among left s ⊎ (number component s ≡ c)) → Left own rest nums' component₀ (set component x c) c
    go [] e some t = absurd (omega (arith, ap length e, more))
    go (y ∷ left) e some t =
        let same : x ≡ y = cc in
        record {
          left = left;
          stacked = cc;
          some = λ s a. some s (inr a);
          taken = λ s a. ⊎_elim
              (λ q. inr (ap (number (set component x c)) q ∙ put))
              (λ ne. ⊎_elim
              (⊎_elim (λ q. absurd (ne (sym q ∙ sym same))) inl)
              (λ h. inr (else s ne ∙ h))
              (t s a))
              (cases_eq s x);
          others = λ s n. else s (λ q. n (some s (inl (sym same ∙ sym q)))) ∙ L.others s n;
        }

-- the next one is one of those that are taken
pub left_next : (own rest nums' component₀ component : List ℕ) (c x : ℕ) → length rest < length (x ∷ nums') →
    Left own rest (x ∷ nums') component₀ component c → Among own x
left_next own rest nums' component₀ component c x more L = go L.left L.stacked L.some
  where
    go : (left : List ℕ) → x ∷ nums' ≡ left ++ rest → ((s : ℕ) → Among left s → Among own s) → Among own x
    go [] e some = absurd (omega (arith, ap length e, more))
    go (y ∷ left) e some = let same : y ≡ x = cc in some x (inl same)

-- what the loop that takes them off keeps
pub record Taken (S₀ S : Search) (at : ℕ) : Type 0 where
  pub left : (own rest : List ℕ) → S₀.numbers.held ≡ own ++ rest → length rest ≡ at → Left own rest S.numbers.held S₀.component S.component S₀.count
  pub wide : length S.component ≡ length S₀.component
  pub rest : S ≡ record S₀ { component = S.component; numbers = record S₀.numbers { held = S.numbers.held } }

pub take_none : (S : Search) (at : ℕ) → Taken S S at
take_none S at = record { left = λ own rest e _. left_all own rest _ _ _ e; wide = refl; rest = refl }

-- x is taken off, and numbers are left
module _ (S₀ S : Search) (at x : ℕ) (numbers : Held ℕ) (off : S.numbers ≡ pushed numbers x) (more : at < length S.numbers.held) (h : Taken S₀ S at) where
  count : S.count ≡ S₀.count
  count = ap (λ (T : Search). T.count) h.rest

  -- the stack before
  before : (own rest : List ℕ) → S₀.numbers.held ≡ own ++ rest → length rest ≡ at → Left own rest (x ∷ numbers.held) S₀.component S.component S₀.count
  before own rest e l = subst (λ (n : Held ℕ). Left own rest n.held S₀.component S.component S₀.count) off (h.left own rest e l)

  high : at < length (x ∷ numbers.held)
  high = subst (λ (n : Held ℕ). at < length n.held) off more

  pub take_next : (own rest : List ℕ) → S₀.numbers.held ≡ own ++ rest → length rest ≡ at → Among own x
  take_next own rest e l = left_next own rest numbers.held _ _ _ x (omega (arith, high)) (before own rest e l)

  pub take_more : x < length S.component → Taken S₀ (record S { component = set S.component x S.count; numbers = numbers }) at
  take_more low =
      let room : numbers.room ≡ S₀.numbers.room = sym (ap (λ (n : Held ℕ). n.room) off) ∙ ap (λ (T : Search). T.numbers.room) h.rest in
      let cyclic : S.cyclic ≡ S₀.cyclic = ap (λ (T : Search). T.cyclic) h.rest in
      let undone : S.undone ≡ S₀.undone = ap (λ (T : Search). T.undone) h.rest in
      let unmet : S.unmet ≡ S₀.unmet = ap (λ (T : Search). T.unmet) h.rest in
      let walk : S.walk ≡ S₀.walk = ap (λ (T : Search). T.walk) h.rest in
      record {
        left = λ own rest e l. rw count (left_more own rest numbers.held _ _ _ x (omega (arith, high)) low (before own rest e l));
        wide = length-set S.component x S.count ∙ h.wide;
        rest = rw (count, cyclic, undone, unmet, walk, room) refl;
      }

-- none is left to take, and the new component is put down
pub shuts : (S₀ S S' : Search) (w : Walk) → Taken S₀ S w.at → length S.numbers.held ≤ w.at →
    ((own rest : List ℕ) × (S₀.numbers.held ≡ own ++ rest) × (length rest ≡ w.at) × ((s : ℕ) → In w.states s ↔ Among own s)) →
    ((s : ℕ) → In S'.undone s ↔ (In S.undone s × (In w.states s → ⊥))) →
    ((d : ℕ) → In S'.cyclic d ↔ (In S.cyclic d ⊎ ((d ≡ S.count) × ((t : ℕ) × In w.moves t × In w.states t)))) →
    S' ≡ record S { undone = S'.undone; cyclic = S'.cyclic; count = S.count + 1 } → Shuts S₀ w S'
shuts S₀ S S' w h none stands undone cyclic same =
    let component : S'.component ≡ S.component = ap (λ (T : Search). T.component) same in
    let numbers : S'.numbers ≡ S.numbers = ap (λ (T : Search). T.numbers) same in
    let count : S.count ≡ S₀.count = ap (λ (T : Search). T.count) h.rest in
    let unmet : S.unmet ≡ S₀.unmet = ap (λ (T : Search). T.unmet) h.rest in
    let walk : S.walk ≡ S₀.walk = ap (λ (T : Search). T.walk) h.rest in
    let room : S.numbers.room ≡ S₀.numbers.room = ap (λ (T : Search). T.numbers.room) h.rest in
    let k = h.left stands.0 stands.1 stands.2 stands.3 in
    record {
      undone = subst (λ (T : Search). (s : ℕ) → In S'.undone s ↔ (In T.undone s × (In w.states s → ⊥))) h.rest undone;
      closed = λ s p. ap (λ x. number x s) component ∙ (left_none _ _ _ _ _ _ (omega (arith, none, stands.3)) k).1 s ((stands.4 s).0 p);
      others = λ s n. ap (λ x. number x s) component ∙ k.others s (λ a. n ((stands.4 s).1 a));
      cyclic = subst (λ (T : Search). (d : ℕ) → In S'.cyclic d ↔ (In T.cyclic d ⊎ ((d ≡ T.count) × ((t : ℕ) × In w.moves t × In w.states t)))) h.rest cyclic;
      wide = ap length component ∙ h.wide;
      taken = λ own rest e l. ap (λ (n : Held ℕ). n.held) numbers ∙ (left_none own rest _ _ _ _ (omega (arith, none, l)) (h.left own rest e l)).0;
      rest = same ∙ rw (component, numbers, count, unmet, walk, room) refl;
    }
