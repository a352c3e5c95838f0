-- Two sound graphs side by side are sound, and so are their labels.
use Rattle.std.proofs.Common.{◌≡◌, ℕ, ◌-◌, ◌<◌, ◌≤◌, false, ltb, List, [], map, length, arith}
use Rattle.std.specs.List.{AllByRecursion}
use Rattle.std.proofs.ByRecursion.{All-map, All-weaker}
use Rattle.std.proofs.lemmas.List.{length-map}
use Rattle.std.proofs.lemmas.Bool.{cond_both, ltb-true}
use Rattle.std.proofs.lemmas.Bool.Decides.{nat_tests}
use Rattle.kripke.specs.Models.{Frame, Labelling, Kripke, SoundFrame, SoundLabels, WellFormed, Lands}
use Rattle.kripke.specs.Kinds.{beside, beside_frame, beside_labels, shifted}

-- what holds of no row, of each of the first's and of each of the second's as shifted, holds of each row of both
side_rows : (l r : Frame) (P : List ℕ → Type 0) (s : ℕ)
    → P []
    → (s < (beside_frame l r).size → P (l.row s))
    → (s < (beside_frame l r).size → P (map (shifted l.size) (r.row (s - l.size))))
    → P ((beside_frame l r).row s)
side_rows l r P s none one two =
    cond_both (ltb s (beside_frame l r).size) _ [] P
    (λ e. cond_both (ltb s l.size) _ _ P (λ _. one (ltb-true s _ e)) (λ _. two (ltb-true s _ e)))
    (λ _. none)

pub beside_sound : (l r : Frame) → SoundFrame l → SoundFrame r → SoundFrame (beside_frame l r)
beside_sound l r wl wr = record {
  few_states = grind (arith, nat_tests);
  few_moves = λ s. side_rows l r (λ row. length row ≤ 4096) s (omega arith) (λ _. wl.few_moves s) (λ _. simp length-map (wr.few_moves (s - l.size)));
  lands = λ s. side_rows l r (AllByRecursion (Lands (beside_frame l r).size)) s tt
      (λ h. All-weaker (Lands l.size) (Lands (beside_frame l r).size) (λ t e. grind (arith, nat_tests)) (l.row s) (wl.lands s))
      (λ h. All-map (Lands (beside_frame l r).size) (shifted l.size) (r.row (s - l.size)) (All-weaker (Lands r.size) (λ t. Lands (beside_frame l r).size (shifted l.size t)) (λ t e. grind (arith, nat_tests)) (r.row (s - l.size)) (wr.lands (s - l.size))));
  no_moves = λ s h. grind (arith, nat_tests);
}

pub beside_labels_sound : (n : ℕ) (l r : Labelling) → SoundLabels l → SoundLabels r → SoundLabels (beside_labels n l r)
beside_labels_sound n l r wl wr = record {
  few_words = omega (arith, wl.few_words, wr.few_words);
  within = λ s a h. cond_both (ltb s n) (l.words s) (r.words (s - n)) (λ w. w a ≡ false) (λ _. wl.within s a (omega arith)) (λ _. wr.within (s - n) a (omega arith));
}

pub beside_formed : (l r : Kripke) → WellFormed l → WellFormed r → WellFormed (beside l r)
beside_formed l r wl wr = record {
  frame = beside_sound l.frame r.frame wl.frame wr.frame;
  labels = beside_labels_sound l.frame.size l.labels r.labels wl.labels wr.labels;
}
