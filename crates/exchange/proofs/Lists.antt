-- The lines of a listing, put together from what the calls of an analysis answer.
use mathlib.Core.Logic.{∥∥₁_elim}
use mathlib.Core.HLevel.{⊥_prop}
use Rattle.std.proofs.Common.{◌≡◌, ℕ, zero, suc, ◌+◌, ◌<◌, ◌≤◌, true, false, not, List, [], ◌∷◌, ◌++◌, length, drop, Ok, Err, Some, None, Option, Result, MatchOption, sym, refl, ap, ◌∙◌, subst, ⊎_elim, inl, inr, add-one, arith}
use Rattle.std.proofs.lemmas.Grind.{flat_map-append}
use Rattle.std.proofs.lemmas.List.{length-append, drop-append-le, drop_all, drop_at}
use Rattle.std.proofs.lemmas.Bool.{not-false, cases_Bool, cases_lt}
use Rattle.std.specs.Option.{ok_or}
use Rattle.std.specs.Result.{result_ok}
use Rattle.kripke.specs.Models.{Kripke}
use Rattle.codec.specs.Pieces.{Writes}
use Rattle.merger.specs.Promise.{Classes}
use Rattle.merger.specs.Calls.{Analysed, ClassAnswer, SummaryAnswer}
use Rattle.merger.specs.declared.analysis.Analysis.{Analysis}
use Rattle.merger.specs.declared.answers.Refusal.{Refusal}
use Rattle.merger.specs.declared.answers.Refusal.TheVariants.{ShortBuffer}
use Rattle.merger.specs.declared.answers.Summary.{Summary}
use Rattle.merger.proofs.Rounding.{meant_bounded}
use Rattle.exchange.specs.Texts.{Line, Member, line_text}
use Rattle.exchange.specs.Listings.{class_in, states_in, count_lines, members, Lines, text_of, ListingAnswer}

pub states-open : (a : Analysis) → a.opened ≡ true → states_in a ≡ a.found.states
states-open a e = rw e refl

pub states-shut : (a : Analysis) → a.opened ≡ false → states_in a ≡ 0
states-shut a e = rw e refl

-- what is opened has few states
pub few_states : (a : Analysis) → states_in a ≤ 128
few_states a = elim (cases_Bool a.opened) [
  | inl e ↦ let B = meant_bounded a.found a.rounds (a.meant e) in omega (arith, states-open a e, B.wide)
  | inr e ↦ omega (arith, states-shut a e)
]

-- a state has a class where it is one of them
pub class_found : (a : Analysis) (s : ℕ) (r : Result ℕ Refusal) → ClassAnswer a s r → MatchOption (result_ok r) (states_in a ≤ s) (λ c. (s < states_in a) × (c ≡ class_in a s))
class_found a s (Ok c) C =
    let opened : a.opened ≡ true = ⊎_elim (λ e. e) (λ e. absurd (C.shut e)) (cases_Bool a.opened) in
    let n = states-open a opened in
    elim (cases_lt s (states_in a)) [
      | inl low ↦ (low, C.class)
      | inr high ↦ absurd (∥∥₁_elim (a.meant opened) ⊥_prop (λ t. let of = t.2.surveyed.states in (C.told t.0 t.1 (record { opened = opened; tabled = t.2 })).outside (omega arith)))
    ]
class_found a s (Err e) C =
    elim (cases_lt s (states_in a)) [
      | inl low ↦
          let opened : a.opened ≡ true = ⊎_elim (λ e. e) (λ e. let none = states-shut a e in absurd (omega arith)) (cases_Bool a.opened) in
          let n = states-open a opened in
          absurd (∥∥₁_elim (a.meant opened) ⊥_prop (λ t. let of = t.2.surveyed.states in (C.told t.0 t.1 (record { opened = opened; tabled = t.2 })).told (omega arith)))
      | inr high ↦ high
    ]

pub members-length : (class : ℕ → ℕ) (n : ℕ) → length (members class n) ≡ n
members-length class zero = refl
members-length class (suc n) = length-append (members class n) (Member n (class n) ∷ []) ∙ (add-one (length (members class n)) ∙ ap suc (members-length class n))

members_from : (class : ℕ → ℕ) (n s : ℕ) → s < n → drop s (members class n) ≡ Member s (class s) ∷ drop (s + 1) (members class n)
members_from class zero s h = absurd (omega arith)
members_from class (suc n) s h =
    let wide = members-length class n in
    let last = Member n (class n) ∷ [] in
    elim (cases_lt s n) [
      | inl low ↦
          drop-append-le s (members class n) last (omega arith)
          ∙ (ap (λ ls. ls ++ last) (members_from class n s low)
          ∙ ap (λ ls. Member s (class s) ∷ ls) (sym (drop-append-le (s + 1) (members class n) last (omega arith))))
      | inr high ↦
          let same : s ≡ n = omega arith in
          drop_at (members class n) last s (omega arith)
          ∙ (ap (λ k. Member k (class k) ∷ []) (sym same)
          ∙ ap (λ ls. Member s (class s) ∷ ls) (sym (drop_all (s + 1) (members class (suc n)) (omega (arith, members-length class (suc n))))))
    ]

-- the states from one on: that one, and those behind it
pub text-members : (class : ℕ → ℕ) (n s c : ℕ) → s < n → c ≡ class s → text_of (drop s (members class n)) ≡ line_text (Member s c) ++ text_of (drop (s + 1) (members class n))
text-members class n s c h e = rw e (ap text_of (members_from class n s h))

pub members_done : (class : ℕ → ℕ) (n s : ℕ) → n ≤ s → drop s (members class n) ≡ []
members_done class n s h = drop_all s (members class n) (omega (arith, members-length class n))

-- the lines of an analysis of which this is the summary
lines_in : Analysis → Summary → List Line
lines_in a x = count_lines x ++ members (class_in a) (states_in a)

lines_are : (a : Analysis) (x : Summary) → SummaryAnswer a (Ok x) → (M : Kripke) (r : ℕ) → Analysed M r a → Lines M r (lines_in a x)
unfolding lines_in
lines_are a x S M r A =
    let n = (S.told M r A).states in
    record {
      counts = x;
      sums = S.told M r A;
      class = class_in a;
      classed = subst (λ m. Classes M r (class_in a) m) (sym S.same.1) A.tabled.classes;
      are = ap (λ k. count_lines x ++ members (class_in a) k) (states-open a A.opened ∙ A.tabled.surveyed.states);
    }

text-lines : (a : Analysis) (x : Summary) → text_of (count_lines x) ++ text_of (members (class_in a) (states_in a)) ≡ text_of (lines_in a x)
unfolding lines_in
text-lines a x = sym (flat_map-append line_text (count_lines x) (members (class_in a) (states_in a)))

lines_told : (a : Analysis) (x : Summary) (before after : List ℕ) (answer : Option ℕ) → SummaryAnswer a (Ok x) → not x.settled ≡ false → Writes (text_of (lines_in a x)) before 0 after answer → ListingAnswer a before after (ok_or answer ShortBuffer)
lines_told a x before after (Some len) S e wrote = record {
  shut = λ h. absurd (S.shut h);
  going = λ M r A z. absurd (z ((S.told M r A).settled.0 (not-false x.settled e)));
  settled = λ M r A z. (lines_in a x, lines_are a x S M r A, (omega (arith, wrote.0), wrote.1, wrote.2));
  within = wrote.1;
}
lines_told a x before after None S e wrote = record {
  shut = λ h. absurd (S.shut h);
  going = λ M r A z. absurd (z ((S.told M r A).settled.0 (not-false x.settled e)));
  settled = λ M r A z. (lines_in a x, lines_are a x S M r A, (omega (arith, wrote.0), (refl, refl)));
  within = wrote.1;
}

-- the lines are written, or they have no room
pub listing_told : (a : Analysis) (x : Summary) (before after : List ℕ) (answer : Option ℕ) → SummaryAnswer a (Ok x) → not x.settled ≡ false →
    Writes (text_of (count_lines x) ++ text_of (members (class_in a) (states_in a))) before 0 after answer → ListingAnswer a before after (ok_or answer ShortBuffer)
listing_told a x before after answer S e wrote =
    lines_told a x before after answer S e (subst (λ bs. Writes bs before 0 after answer) (text-lines a x) wrote)
