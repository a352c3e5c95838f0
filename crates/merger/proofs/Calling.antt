-- What the calls do to an analysis.
use Rattle.std.proofs.Common.{◌≡◌, ℕ, suc, ◌+◌, ◌<◌, ◌≤◌, Bool, true, false, eqb, Ok, Err, Decides, sym, subst}
use Rattle.kripke.specs.Models.{Kripke}
use Rattle.kripke.specs.Formulas.{Agree}
use Rattle.kripke.specs.Relation.{Related, Settles}
use Rattle.merger.specs.declared.analysis.Analysis.{Analysis}
use Rattle.merger.specs.Promise.{Told}
use Rattle.merger.specs.declared.answers.Refusal.{Refusal}
use Rattle.merger.specs.Tables.{class_of}
use Rattle.merger.specs.Calls.{Analysed, Promises, Continues, ClassAnswer, TogetherAnswer}
use Rattle.merger.proofs.Promising.{tabled_promise, tabled_together, reaches_none, reaches_still, reaches_step, reaches_join, run_count}

pub promises : (M : Kripke) (r : ℕ) (a : Analysis) → Analysed M r a → Promises M r a
promises M r a A = tabled_promise M r a.found a.rounds A.tabled

-- an analysis that some calls leave as it is
pub continues_none : (a : Analysis) → Continues 0 a a
continues_none a M r A = (r, reaches_none M r a.found a.rounds A.tabled, A, promises M r a A)

-- one that is settled, asked for more rounds
pub continues_still : (a : Analysis) (asked : ℕ) → a.rounds.settled ≡ true → Continues asked a a
continues_still a asked e M r A = (r, reaches_still M r a.found a.rounds A.tabled e asked, A, promises M r a A)

pub continues_step : (a b : Analysis) → a.rounds.settled ≡ false → ((M : Kripke) (r : ℕ) → Analysed M r a → Analysed M (suc r) b) → Continues 1 a b
continues_step a b e more M r A =
    (suc r, reaches_step M r a.found a.rounds A.tabled e, more M r A, promises M (suc r) b (more M r A))

pub continues_run : (a b : Analysis) (k budget : ℕ) → ((M : Kripke) (r : ℕ) → Analysed M r a → Analysed M (r + k) b) →
    k ≤ budget → (k < budget → b.rounds.settled ≡ true) → Continues budget a b
continues_run a b k budget more most up M r A =
    let B = more M r A in
    let c = run_count M r k budget a.found a.rounds b.found b.rounds A.tabled B.tabled most up in
    (r + k, (c.0, c.1, c.3), B, promises M (r + k) b B)

-- one call after another
pub continues_join : (n k : ℕ) (a b d : Analysis) → Continues n a b → Continues k b d → Continues (n + k) a d
continues_join n k a b d f g M r A =
    let p = f M r A in
    let q = g M p.0 p.2 in
    (q.0, reaches_join M r n k p.0 q.0 p.1 q.1, q.2, q.3)

-- two states, from what is told of each
pub together_first : (a : Analysis) (s t : ℕ) (e : Refusal) → ClassAnswer a s (Err e) → TogetherAnswer a s t (Err e)
together_first a s t e A = record {
  shut = A.shut;
  told = λ M r B. let T = A.told M r B in record { first = T.outside; second = λ h. absurd (T.told h); told = λ h. absurd (T.told h) };
}

pub together_second : (a : Analysis) (s t c : ℕ) (e : Refusal) → ClassAnswer a s (Ok c) → ClassAnswer a t (Err e) → TogetherAnswer a s t (Err e)
together_second a s t c e A B = record {
  shut = B.shut;
  told = λ M r C.
      let T = A.told M r C in
      let U = B.told M r C in
      record { first = λ h. absurd (T.outside h); second = λ h k. U.outside k; told = λ h k. absurd (U.told k) };
}

abbrev Tells : Kripke → ℕ → ℕ → ℕ → Bool → Type 0
Tells M r s t b = Decides b (Related M r s t) × (Settles M r → Decides b (Agree M s M t)) × (b ≡ false → Told M r s t)

pub together_both : (a : Analysis) (s t c d : ℕ) → ClassAnswer a s (Ok c) → ClassAnswer a t (Ok d) → TogetherAnswer a s t (Ok (eqb c d))
together_both a s t c d A B = record {
  shut = λ e. absurd (A.shut e);
  told = λ M r C.
      let T = A.told M r C in
      let U = B.told M r C in
      record {
        first = λ h. absurd (T.outside h);
        second = λ h k. absurd (U.outside k);
        told = λ h k.
            subst (λ x. Tells M r s t (eqb x d)) (sym A.class) (subst (λ y. Tells M r s t (eqb (class_of a.found a.rounds s) y)) (sym B.class)
            (tabled_together M r a.found a.rounds C.tabled s t h k));
      };
}
