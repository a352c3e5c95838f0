-- Truth of a formula at a state can be decided.
use Rattle.std.proofs.Common.{ℕ, zero, suc, ◌<◌, true, ◌⊎◌, inl, inr}
use mathlib.Core.Bool.{Bool-discrete}
use mathlib.Core.Logic.Dec
use Rattle.kripke.specs.Models.{Frame, Kripke}
use Rattle.kripke.specs.Paths.{Move, Trail, Until, Stays}
use Rattle.kripke.specs.Formulas.{Formula, top, word, neg, or, until, globally, Holds}
use Rattle.kripke.proofs.Finite.{some_below, dec_or}
use Rattle.kripke.proofs.Paths.{Arrives, until_behind, until_split}
use Rattle.kripke.proofs.Roads.{dec_move, dec_reach}

module _ (F : Frame) (P Q : ℕ → Type 0) (p : (w : ℕ) → Dec (P w)) (q : (w : ℕ) → Dec (Q w)) where
  dec-arrives : (s : ℕ) → Dec (Arrives F P Q s)
  dec-arrives s =
      Dec.of_iff (
        (λ e. let w = e.2.2.0 in let m = e.2.2.1 in (e.0, e.2.0, w.0, w.1, m.0, m.1)),
        (λ e. (e.0, e.4.1, (e.1, e.4.2, ((e.2, e.3), (e.4, e.5))))),
      )
      (some_below F.size (λ t. (u : ℕ) × (u < F.size) × (((n : ℕ) × Trail (Move F) P n s t) × (Move F t u × Q u)))
      (λ t. some_below F.size (λ u. ((n : ℕ) × Trail (Move F) P n s t) × (Move F t u × Q u))
      (λ u. Dec.and (dec_reach F P p s t) (Dec.and (dec_move F t u) (q u)))))

  dec-until : (s : ℕ) → Dec ((n : ℕ) × Until (Move F) P Q n s)
  dec-until s = Dec.of_iff (to, λ u. until_split F P Q u.0 s u.1) (dec_or (q s) (dec-arrives s))
    where
      to : Q s ⊎ Arrives F P Q s → (n : ℕ) × Until (Move F) P Q n s
      to (inl e) = (0, e)
      to (inr e) = until_behind F P Q e.2 0 s e.0 e.1 e.3 e.4 e.5

pub dec_stays : (F : Frame) (P : ℕ → Type 0) → ((w : ℕ) → Dec (P w)) → (n s : ℕ) → Dec (Stays (Move F) P n s)
dec_stays F P d zero s = d s
dec_stays F P d (suc n) s =
    Dec.of_iff ((λ p. (p.1.0, p.0, p.1.2.0, p.1.2.1)), (λ p. (p.1, (p.0, p.2.2, (p.2, p.3)))))
    (Dec.and (d s) (some_below F.size (λ t. Move F s t × Stays (Move F) P n t) (λ t. Dec.and (dec_move F s t) (dec_stays F P d n t))))

pub dec_holds : (M : Kripke) (f : Formula) (s : ℕ) → Dec (Holds M f s)
dec_holds M top s = yes tt
dec_holds M (word a) s = Bool-discrete (M.labels.words s a) true
dec_holds M (neg f) s = Dec.not (dec_holds M f s)
dec_holds M (or f g) s = dec_or (dec_holds M f s) (dec_holds M g s)
dec_holds M (until f g) s = dec-until M.frame (Holds M f) (Holds M g) (dec_holds M f) (dec_holds M g) s
dec_holds M (globally f) s = dec_stays M.frame (Holds M f) (dec_holds M f) M.frame.size s
