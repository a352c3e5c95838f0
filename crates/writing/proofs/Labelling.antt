-- The labels of a model, one state more at a time; there is one list of them.
use Rattle.std.proofs.Common.{◌≡◌, ℕ, ◌+◌, ◌<◌, ◌≤◌, ◌&&◌, List, [], ◌∷◌, ◌++◌, length, get_or, take, sym, refl, ap, ◌∙◌, subst, ⊎_elim, arith}
use Rattle.std.proofs.ByRecursion.{All-get_or, All-push, All-take}
use Rattle.std.proofs.lemmas.List.{ext_get_or, get_or_append_left, get_or_push, get_or-take, length-append, length_push, length-take-le, map_push}
use Rattle.std.proofs.lemmas.Bool.{cases_lt, lt-ltb}
use Rattle.kripke.specs.Models.{Kripke, words_at}
use Rattle.kripke.specs.Words.{SameWords, bit}
use Rattle.models.specs.Facts.{fact_words}
use Rattle.models.specs.declared.facts.Facts.{Facts}
use Rattle.models.proofs.Bits.{same_from_bits}
use Rattle.codec.specs.Numbers.{code, codes}
use Rattle.modelfile.specs.Files.{bits_of, Wide}
use Rattle.modelfile.proofs.Walking.{codes_push}
use Rattle.writing.specs.Saves.{Labelled}

abbrev pub blank : Facts
blank = record { bits = 0 }

pub labelled_none : (M : Kripke) → Labelled M 0 []
labelled_none M = record { many = refl; wide = tt; says = λ s h. absurd (omega arith) }

pub labelled_more : (M : Kripke) (count : ℕ) (labels : List Facts) (facts : Facts) → Labelled M count labels → Wide facts → SameWords (fact_words facts) (words_at M count) → Labelled M (count + 1) (labels ++ (facts ∷ []))
labelled_more M count labels facts old wide same =
    let many = old.many in
    let long = length_push labels facts in
    record {
      many = omega arith;
      wide = All-push Wide labels facts old.wide wide;
      says = λ s h. ⊎_elim
          (λ l. subst (λ f. SameWords (fact_words f) (words_at M s)) (sym (get_or_append_left labels (facts ∷ []) blank s (omega arith))) (old.says s l))
          (λ l.
          let e : s ≡ count = omega arith in
          subst (λ k. SameWords (fact_words (get_or (labels ++ (facts ∷ [])) k blank)) (words_at M k)) (sym e)
          (subst (λ f. SameWords (fact_words f) (words_at M count)) (sym (get_or_push labels facts blank count many)) same))
          (cases_lt s count);
    }

-- facts of 64 bits with the same words are the same
pub same_facts : (f h : Facts) → Wide f → Wide h → SameWords (fact_words f) (fact_words h) → f ≡ h
same_facts f h wf wh same =
    ap (λ n. record { bits = n })
    (same_from_bits 64 f.bits h.bits wf wh
    (λ a l.
    let here = lt-ltb a 64 l in
    ap (λ b. b && bit f.bits a) (sym here) ∙ (same a ∙ ap (λ b. b && bit h.bits a) here)))

-- the labels of the first states are those of all states, cut off
pub labels_front : (M : Kripke) (count total : ℕ) (labels all : List Facts) → Labelled M count labels → Labelled M total all → count ≤ total → labels ≡ take count all
labels_front M count total labels all some every h =
    let many = some.many in
    let full = every.many in
    let long = length-take-le count all (omega arith) in
    ext_get_or blank labels (take count all) (omega arith) (λ i l.
    let in_all : i < length all = omega arith in
    same_facts (get_or labels i blank) (get_or (take count all) i blank)
    (All-get_or Wide labels i blank l some.wide)
    (All-get_or Wide (take count all) i blank (omega arith) (All-take Wide count all every.wide))
    (λ a. some.says i (omega arith) a ∙ (sym (every.says i (omega arith) a) ∙ ap (λ f. fact_words f a) (sym (get_or-take count all i blank (omega arith))))))

-- N and the labels as bytes, with one label more
pub labels_code : (n : ℕ) (labels : List Facts) (facts : Facts) → codes (n ∷ bits_of labels) ++ code facts.bits ≡ codes (n ∷ bits_of (labels ++ (facts ∷ [])))
labels_code n labels facts = codes_push (n ∷ bits_of labels) facts.bits ∙ ap (λ ns. codes (n ∷ ns)) (sym (map_push (λ (x : Facts). x.bits) labels facts))

pub labels_longer : (n : ℕ) (labels : List Facts) (facts : Facts) → length (codes (n ∷ bits_of (labels ++ (facts ∷ [])))) ≡ length (codes (n ∷ bits_of labels)) + length (code facts.bits)
labels_longer n labels facts = ap length (sym (labels_code n labels facts)) ∙ length-append (codes (n ∷ bits_of labels)) (code facts.bits)
