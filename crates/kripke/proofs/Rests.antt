-- A well-formed model stays so where its states with no move rest.
use Rattle.std.proofs.Common.{◌≤◌, ltb, [], ◌∷◌, length, inl, arith}
use Rattle.std.specs.List.{AllByRecursion}
use Rattle.std.proofs.lemmas.Bool.{cond_both, ltb-true, and_parts, and_left, le-ltb, cond-false}
use Rattle.kripke.specs.Models.{Frame, Kripke, SoundFrame, WellFormed, Lands}
use Rattle.kripke.specs.Kinds.{rested, rested_frame, rests}

pub rested_sound : (m : Frame) → SoundFrame m → SoundFrame (rested_frame m)
rested_sound m w = record {
  few_states = w.few_states;
  few_moves = λ s. cond_both (rests m s) (s ∷ []) (m.row s) (λ row. length row ≤ 4096) (λ _. omega arith) (λ _. w.few_moves s);
  lands = λ s. cond_both (rests m s) (s ∷ []) (m.row s) (AllByRecursion (Lands m.size)) (λ e. (inl (ltb-true s m.size (and_parts _ _ e).0), tt)) (λ _. w.lands s);
  no_moves = λ s past. rw (cond-false (rests m s) (s ∷ []) (m.row s) (and_left (ltb s m.size) _ (le-ltb s m.size past))) (w.no_moves s past);
}

pub rested_formed : (M : Kripke) → WellFormed M → WellFormed (rested M)
rested_formed M w = record { frame = rested_sound M.frame w.frame; labels = w.labels }
