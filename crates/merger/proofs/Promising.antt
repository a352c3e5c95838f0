-- The tables of an analysis keep the promise.
use Rattle.std.proofs.Common.{◌≡◌, ℕ, suc, ◌+◌, ◌-◌, ◌<◌, ◌≤◌, min, true, false, eqb, Decides, inl, ⊎_elim, arith}
use Rattle.std.proofs.lemmas.Bool.{cases_Bool, both_ways, eqb-true, eqb-false, eq-eqb}
use Rattle.kripke.specs.Models.{Kripke, WellFormed, Total}
use Rattle.kripke.specs.Formulas.{Agree}
use Rattle.kripke.specs.Relation.{Related, Settles}
use Rattle.kripke.proofs.Numbering.{numbering_same}
use Rattle.kripke.proofs.Settling.{settles_stable}
use Rattle.kripke.proofs.Quotient.{reduced_agrees, reduced_smallest}
use Rattle.kripke.proofs.Claims.{stable_exact, parted_by_formula_lem, rounds_counted, settled_once}
use Rattle.merger.specs.declared.tables.Found.{Found}
use Rattle.merger.specs.declared.tables.Rounds.{Rounds}
use Rattle.merger.specs.Tables.{class_of}
use Rattle.merger.specs.Analysed.{Surveyed, Tabled}
use Rattle.merger.specs.Promise.{Classes, Told, Promise, Reaches}
use Rattle.merger.proofs.Rounding.{settles_after, stands_at, settling}

-- states that C_r does not relate are told apart
pub apart_told : (M : Kripke) → WellFormed M → (r s t : ℕ) → s < M.frame.size → t < M.frame.size → (Related M r s t → ⊥) → Told M r s t
apart_told M formed r s t h k apart = let f = parted_by_formula_lem M formed r s t h k apart in (f.0, f.1, inl (f.2, f.3))

pub promise : (M : Kripke) → WellFormed M → Total M.frame → (r : ℕ) (f : ℕ → ℕ) (m : ℕ) → Classes M r f m → Promise M r f m
promise M formed total r f m N = record {
  exact = λ z s t h k.
      let x = stable_exact M formed r (settles_stable M r z) s t h k in
      let n = N.same s t h k in ((λ e. x.0 (n.0 e)), (λ a. n.1 (x.1 a)));
  told = λ s t h k apart. apart_told M formed r s t h k (λ p. apart ((N.same s t h k).1 p));
  stands = λ z R red. (reduced_smallest M r m f R (settles_stable M r z) N red formed total, reduced_agrees M r m f R (settles_stable M r z) N red);
  counted = λ z g h A. rounds_counted M formed r h m g f z A N;
}

module _ (M : Kripke) (r : ℕ) (F : Found) (S : Rounds) (A : Tabled M r F S) where
  O : Surveyed M F
  O = A.surveyed

  pub tabled_promise : Promise M r (class_of F S) S.partition.classes
  tabled_promise = promise M O.formed O.admitted.1 r (class_of F S) S.partition.classes A.classes

  -- the flag tells whether the settling round is made
  pub tabled_settled : Decides S.settled (Settles M r)
  tabled_settled = (
    A.ended,
    λ z. ⊎_elim (λ e. e) (λ e. absurd (let l = settles_after M r r (A.going e) z in omega arith)) (cases_Bool S.settled),
  )

  -- whatever numbers the classes by first member gives the class of the tables
  pub tabled_class : (f : ℕ → ℕ) (m : ℕ) → Classes M r f m → (s : ℕ) → s < M.frame.size → class_of F S s ≡ f s
  tabled_class f m N s h = numbering_same (Related M r) M.frame.size S.partition.classes m (class_of F S) f A.classes N s h

  -- whether two states have one class
  pub tabled_together : (s t : ℕ) → s < M.frame.size → t < M.frame.size →
      Decides (eqb (class_of F S s) (class_of F S t)) (Related M r s t) ×
      (Settles M r → Decides (eqb (class_of F S s) (class_of F S t)) (Agree M s M t)) ×
      (eqb (class_of F S s) (class_of F S t) ≡ false → Told M r s t)
  tabled_together s t h k =
      let x : ℕ = class_of F S s in
      let y : ℕ = class_of F S t in
      let n = A.classes.same s t h k in (
        ((λ e. n.0 (eqb-true x y e)), (λ p. eq-eqb x y (n.1 p))),
        (λ z. let a = tabled_promise.exact z s t h k in ((λ e. a.0 (eqb-true x y e)), (λ p. eq-eqb x y (a.1 p)))),
        (λ e. tabled_promise.told s t h k (eqb-false x y e)),
      )

  -- how far it can go
  pub reaches_none : Reaches M r 0 r
  reaches_none =
      let z = settling M F O in
      (z.0, z.2, ⊎_elim (λ p. omega (arith, p.1)) (λ p. omega (arith, p.1)) (stands_at M r z.0 F S A z.2))

  pub reaches_still : S.settled ≡ true → (asked : ℕ) → Reaches M r asked r
  reaches_still e asked = (r, A.ended e, omega arith)

  pub reaches_step : S.settled ≡ false → Reaches M r 1 (suc r)
  reaches_step e =
      let z = settling M F O in
      (z.0, z.2, let l = settles_after M r z.0 (A.going e) z.2 in omega arith)

-- k rounds of a run: all of the budget, unless it is settled before
module _ (M : Kripke) (r k budget : ℕ) (F : Found) (S : Rounds) (F' : Found) (S' : Rounds) (A : Tabled M r F S) (B : Tabled M (r + k) F' S')
    (most : k ≤ budget) (up : k < budget → S'.settled ≡ true) where
  pub run_count : (z : ℕ) × Settles M z × (k ≡ min budget (z - r)) × (r + k ≡ min (r + budget) z)
  run_count =
      let z = settling M F A.surveyed in
      let begin : r ≤ z.0 = ⊎_elim (λ p. omega (arith, p.1)) (λ p. omega (arith, p.1)) (stands_at M r z.0 F S A z.2) in
      ⊎_elim
      (λ p. (z.0, z.2, omega (arith, p.1), omega (arith, p.1)))
      (λ p.
      let full : k < budget → ⊥ = λ l. both_ways _ p.0 (up l) in
      (z.0, z.2, omega (arith, p.1), omega (arith, p.1)))
      (stands_at M (r + k) z.0 F' S' B z.2)

-- one stretch after another
pub reaches_join : (M : Kripke) (r a b q p : ℕ) → Reaches M r a q → Reaches M q b p → Reaches M r (a + b) p
reaches_join M r a b q p x y =
    let e = settled_once M x.0 y.0 x.1 y.1 in
    (y.0, y.1, omega (arith, x.2, y.2))
