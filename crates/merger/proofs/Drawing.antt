-- A reduced model that is filled after the settling round.
use Rattle.std.proofs.Common.{◌≡◌, ℕ, ◌<◌, ◌≤◌, true, false, cond, ltb, ◌↔◌, List, [], length, get_or, Some, None, slice_get, sym, ap, ◌∙◌, subst, ⊎_elim, arith}
use Rattle.std.proofs.lemmas.Bool.{cases_lt, lt-ltb, le-ltb, cond-true, cond-false}
use Rattle.std.proofs.lemmas.Option.{slice_get-get_or, slice_get_past}
use Rattle.sets.specs.declared.Set.{Set}
use Rattle.sets.specs.Sets.{In, none, members}
use Rattle.sets.proofs.Members.{members_has, members_in, members_rise}
use Rattle.kripke.specs.Models.{Kripke, nowhere, move}
use Rattle.kripke.specs.Paths.{Move}
use Rattle.kripke.specs.Relation.{Related}
use Rattle.kripke.specs.Reduced.{Rising}
use Rattle.kripke.proofs.Counting.{chosen}
use Rattle.kripke.proofs.Settling.{settles_stable}
use Rattle.kripke.proofs.Sampling.{Sampled, sampled_reduces}
use Rattle.merger.specs.declared.tables.Found.{Found}
use Rattle.merger.specs.declared.tables.Rounds.{Rounds}
use Rattle.merger.specs.declared.reduced.Reduced.{Reduced}
use Rattle.merger.specs.Grids.{at, set_at}
use Rattle.merger.specs.Reaching.{Outlook}
use Rattle.merger.specs.Tables.{part, class_of, words_of, Bounded}
use Rattle.merger.specs.Analysed.{Surveyed, Tabled}
use Rattle.merger.specs.Filled.{filled_frame, filled_formed}
use Rattle.merger.specs.Reducing.{meaning, Drawn, Fills}
use Rattle.merger.proofs.Moving.{loop_out, next_out, out_loop, out_next}
use Rattle.merger.proofs.Promising.{tabled_promise}
use Rattle.merger.proofs.Blank.{no_words}
use Rattle.sets.proofs.Bits.{none_in}

-- a move is what a row has at its number
pub move-slice_get : (xs : List ℕ) (k : ℕ) → slice_get xs k ≡ move xs k
move-slice_get xs k = ⊎_elim
    (λ l. slice_get-get_or xs k nowhere l ∙ sym (cond-true (ltb k (length xs)) (Some (get_or xs k nowhere)) None (lt-ltb k (length xs) l)))
    (λ past. slice_get_past xs k past ∙ sym (cond-false (ltb k (length xs)) (Some (get_or xs k nowhere)) None (le-ltb k (length xs) past)))
    (cases_lt k (length xs))

-- each class has the facts and the row of one of its components, and past them the tables are blank
pub record Sketched (F : Found) (S : Rounds) (rows : List Set) (facts : List ℕ) (moves : List Set) : Type 0 where
  pub taken : (c : ℕ) → c < S.partition.classes →
      (k : ℕ) × (k < F.components) × (at S.partition.class k ≡ c) × (at facts c ≡ at F.facts k) × (set_at moves c ≡ set_at rows k)
  pub blank_facts : (c : ℕ) → S.partition.classes ≤ c → at facts c ≡ 0
  pub blank_moves : (c : ℕ) → S.partition.classes ≤ c → set_at moves c ≡ none

module _ (F : Found) (S : Rounds) (rows : List Set) (facts : List ℕ) (moves : List Set) (B : Bounded F S) (K : Sketched F S rows facts moves) where
  pub sketched_within : (s a : ℕ) → F.words ≤ a → words_of (at facts s) a ≡ false
  sketched_within s a past = ⊎_elim
      (λ l. let p = K.taken s l in ap (λ x. words_of x a) p.3 ∙ B.within p.0 p.1 a past)
      (λ l. ap (λ x. words_of x a) (K.blank_facts s l) ∙ no_words a)
      (cases_lt s S.partition.classes)

  pub sketched_lands : ((k c : ℕ) → k < F.components → In (set_at rows k) c → c < S.partition.classes) → (s j : ℕ) → In (set_at moves s) j → j < S.partition.classes
  sketched_lands low s j h = ⊎_elim
      (λ l. let p = K.taken s l in low p.0 j p.1 (subst (λ x. In x j) p.4 h))
      (λ l. absurd (none_in j (subst (λ x. In x j) (K.blank_moves s l) h)))
      (cases_lt s S.partition.classes)

-- what is ahead are classes
pub outlook_low : (F : Found) (S : Rounds) → Bounded F S → (k c : ℕ) → Outlook S.reach F.moves S.partition k c → c < S.partition.classes
outlook_low F S B k c o =
    let to : ℕ = o.3.0 in
    let same = B.items in
    let low = S.partition.low to (let l = B.moves o.0 to (let h = o.1 in omega arith) o.3.1 in omega arith) in
    subst (λ x. x < S.partition.classes) o.3.3 low

-- a move of a filled model is a member of its set
pub filled-move : (n : ℕ) (moves : List Set) → n ≤ 128 → (i j : ℕ) → i < n → j < n → Move (filled_frame n moves) i j ↔ In (set_at moves i) j
filled-move n moves few i j h k =
    let row = members (set_at moves i) in
    let e : cond (ltb i n) row [] ≡ row = cond-true (ltb i n) row [] (lt-ltb i n h) in (
      (λ m.
          let l : m.0 < length row = subst (λ r. m.0 < length r) e m.3 in
          let at_j : get_or row m.0 nowhere ≡ j = subst (λ r. get_or r m.0 nowhere ≡ j) e m.4 in
          subst (λ x. In (set_at moves i) x) at_j (members_in (set_at moves i) m.0 nowhere l)),
      (λ o.
          let p = members_has (set_at moves i) j nowhere (omega arith) o in
          (p.0, h, k, subst (λ r. p.0 < length r) (sym e) p.1, subst (λ r. get_or r p.0 nowhere ≡ j) (sym e) p.2)),
    )

pub filled_rising : (n : ℕ) (moves : List Set) (i : ℕ) → i < n → Rising ((filled_frame n moves).row i)
filled_rising n moves i h =
    let row = members (set_at moves i) in
    subst Rising (sym (cond-true (ltb i n) row [] (lt-ltb i n h))) (λ k l. members_rise (set_at moves i) k nowhere l)

module _ (M : Kripke) (r : ℕ) (F : Found) (S : Rounds) (A : Tabled M r F S) (ended : S.settled ≡ true) (rows : List Set)
    (tells : (k : ℕ) → k < F.components → (c : ℕ) → In (set_at rows k) c ↔ Outlook S.reach F.moves S.partition k c)
    (x : Reduced) (D : Drawn F S rows x) where
  O : Surveyed M F
  O = A.surveyed

  abbrev c : ℕ → ℕ
  c = class_of F S

  abbrev m : ℕ
  m = S.partition.classes

  -- a state of the component that class i was drawn from
  abbrev Voice : ℕ → ℕ → Type 0
  Voice i s = (s < M.frame.size) × (c s ≡ i) × (at x.facts i ≡ at F.facts (part F s)) × (set_at x.moves i ≡ set_at rows (part F s))

  voice : (f : ℕ → ℕ) × ((i : ℕ) → i < m → Voice i (f i))
  voice = chosen m Voice (λ i h.
      let p = D.taken i h in
      let s = O.components.ranked.member p.0 p.1 in
      (s.0, (s.1, ap (at S.partition.class) s.2 ∙ p.2, p.3 ∙ ap (at F.facts) (sym s.2), p.4 ∙ ap (set_at rows) (sym s.2))))

  below : (s : ℕ) → s < M.frame.size → part F s < F.components
  below = O.components.ranked.below

  -- what is ahead of a state's component, from the row of its class
  row_out : (i j s : ℕ) → i < m → j < m → Voice i s →
      Move (meaning x).frame i j ↔ Outlook S.reach F.moves S.partition (part F s) j
  row_out i j s h k v =
      let n = D.states in
      let w = filled-move x.states x.moves x.few i j (omega arith) (omega arith) in
      let t = tells (part F s) (below s v.0) j in (
        (λ p. t.0 (subst (λ y. In y j) v.3 (w.0 p))),
        (λ o. w.1 (subst (λ y. In y j) (sym v.3) (t.1 o))),
      )

  lands : (i k : ℕ) → i < m → k < length ((meaning x).frame.row i) → get_or ((meaning x).frame.row i) k nowhere < m
  lands i k h l =
      let row = members (set_at x.moves i) in
      let n = D.states in
      let e : cond (ltb i x.states) row [] ≡ row = cond-true (ltb i x.states) row [] (lt-ltb i x.states (omega arith)) in
      let b : k < length row = subst (λ q. k < length q) e l in
      let y = x.lands i (get_or row k nowhere) (members_in (set_at x.moves i) k nowhere b) in
      subst (λ q. get_or q k nowhere < m) (sym e) (omega arith)

  sampled : Sampled M (Related M r) c m (meaning x)
  sampled = record {
    sized = D.states;
    spoken = D.words ∙ O.words;
    sample = voice.0;
    member = λ i h. let v = voice.1 i h in (v.0, v.1);
    says = λ i h a. let v = voice.1 i h in ap (λ y. words_of y a) v.2 ∙ O.facts (voice.0 i) v.0 a;
    goes = λ i j h k other.
        let s = voice.0 i in
        let v = voice.1 i h in
        let w = row_out i j s h k v in (
          (λ p. out_next M r F S A s j v.0 (λ e. other (e ∙ v.1)) (w.0 p)),
          (λ q. w.1 (subst (Outlook S.reach F.moves S.partition (part F s)) q.2 (next_out M r F S A s q.0 v.0 q.1))),
        );
    turns = λ i h.
        let s = voice.0 i in
        let v = voice.1 i h in
        let w = row_out i i s h h v in (
          (λ p. out_loop M r F S A s v.0 (subst (Outlook S.reach F.moves S.partition (part F s)) (sym v.1) (w.0 p))),
          (λ l. w.1 (subst (Outlook S.reach F.moves S.partition (part F s)) v.1 (loop_out M r F S A s v.0 l))),
        );
    rising = λ i h. let n = D.states in filled_rising x.states x.moves i (omega arith);
    lands = lands;
  }

  pub drawn_fills : Fills M r (meaning x)
  drawn_fills =
      let z = A.ended ended in
      let R = sampled_reduces M r m c (meaning x) (settles_stable M r z) A.classes sampled in (
        filled_formed x.states x.words x.facts x.moves x.few x.spoken x.within x.lands,
        (c, m, A.classes, R, (tabled_promise M r F S A).stands z (meaning x) R),
      )
