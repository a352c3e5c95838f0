-- What the tables of a listed model give.
use Rattle.std.proofs.Common.{◌≡◌, ℕ, zero, suc, ◌+◌, ◌≤◌, false, ltb, List, [], ◌∷◌, map, length, get_or, refl, arith}
use Rattle.std.proofs.ByRecursion.{All-map, All-from_get_or}
use Rattle.std.proofs.lemmas.List.{length-map, length-take}
use Rattle.std.proofs.lemmas.Bool.{cond_both}
use Rattle.std.proofs.lemmas.Bool.Decides.{nat_tests}
use Rattle.kripke.specs.Words.{Words, Lawful}
use Rattle.kripke.specs.Models.{WellFormed, SoundFrame, SoundLabels, Lands}
use Rattle.kripke.specs.Kinds.{listed, listed_frame, listed_labels, listed_size, table_row, told, span}

pub span_short : (targets : List ℕ) (from to : ℕ) → length (span targets from to) ≤ 4096
span_short targets from to = grind (arith, nat_tests, length-take)

pub table_row_short : (n : ℕ) (offsets targets : List ℕ) (s : ℕ) → length (table_row n offsets targets s) ≤ 4096
table_row_short n offsets targets s =
    cond_both (ltb s n) _ [] (λ row. length row ≤ 4096) (λ _. span_short targets (get_or offsets s 0) (get_or offsets (s + 1) 0)) (λ _. omega arith)

told_lands : (n t : ℕ) → Lands n (told n t)
told_lands n t = grind (arith, nat_tests)

-- what holds of no word holds of each word of a label, and past the labels
label_words : {L : Type 0} (means : L → Words) (a : ℕ) → ((x : L) → means x a ≡ false) → (labels : List L) (s : ℕ) → get_or (map (λ x. means x a) labels) s false ≡ false
label_words means a none [] s = refl
label_words means a none (x ∷ labels) zero = none x
label_words means a none (x ∷ labels) (suc s) = label_words means a none labels s

pub listed_sound : {L : Type 0} (labels : List L) (offsets targets : List ℕ) → SoundFrame (listed_frame labels offsets targets)
listed_sound labels offsets targets = record {
  few_states = grind (arith, nat_tests);
  few_moves = λ s. simp length-map (table_row_short (listed_size labels offsets) offsets targets s);
  lands = λ s. All-map (Lands (listed_size labels offsets)) (told (listed_size labels offsets)) (table_row (listed_size labels offsets) offsets targets s) (All-from_get_or _ _ 0 (λ i _. told_lands _ _));
  no_moves = λ s h. grind (arith, nat_tests);
}

pub listed_labels_sound : {L : Type 0} (count : ℕ) (means : L → Words) (labels : List L) → Lawful count means → SoundLabels (listed_labels count means labels)
listed_labels_sound count means labels law = record {
  few_words = law.few;
  within = λ s a h. label_words means a (λ x. law.within x a h) labels s;
}

pub listed_formed : {L : Type 0} (count : ℕ) (means : L → Words) (labels : List L) (offsets targets : List ℕ) → Lawful count means → WellFormed (listed count means labels offsets targets)
listed_formed count means labels offsets targets law = record {
  frame = listed_sound labels offsets targets;
  labels = listed_labels_sound count means labels law;
}
