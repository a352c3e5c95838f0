-- What is found in a model, by one test.
use Rattle.std.proofs.Common.{◌≡◌, ℕ, Bool, true, ◌&&◌, eqb, ltb, List, get_or, subst}
use Rattle.kripke.specs.Models.{Kripke, WellFormed}
use Rattle.kripke.specs.Relation.{Related, Settles}
use Rattle.kripke.specs.Numbering.{Numbering}
use Rattle.kripke.specs.Components.{Components}
use Rattle.kripke.proofs.Numbering.{renumbered}
use Rattle.worked.specs.Tables.{every}
use Rattle.worked.specs.Decisions.{classes?, components?, settling?, at, total?}
use Rattle.worked.specs.Cases.{of, Found}
use Rattle.worked.proofs.Tests.{true_tells, both, tells_eq, tells_lt, tells_every}
use Rattle.worked.proofs.Claims.{classes_computed, components_computed, settling_computed, tells_total}

unfoldable pub found? : Kripke → (k h r m : ℕ) → List ℕ → Bool
found? M k h r m l =
    let c = classes? M r in
    ltb 0 M.frame.size && (total? M.frame && (eqb (components? M).count k && (eqb (classes? M 0).count h && (eqb (settling? M) r &&
    (eqb c.count m && every M.frame.size (λ s. eqb (at c s) (get_or l s 0)))))))

pub found : (M : Kripke) → WellFormed M → (k h r m : ℕ) (l : List ℕ) → found? M k h r m l ≡ true → Found M k h r m l
unfolding found? of
found M formed k h r m l t =
    let n : ℕ = M.frame.size in
    let c = classes? M r in
    let p = true_tells (both (tells_lt 0 n) (both (tells_total M.frame) (both (tells_eq (components? M).count k)
    (both (tells_eq (classes? M 0).count h) (both (tells_eq (settling? M) r)
    (both (tells_eq c.count m) (tells_every n (λ s. at c s ≡ get_or l s 0) (λ s. eqb (at c s) (get_or l s 0)) (λ s _. tells_eq (at c s) (get_or l s 0))))))))) t in
    let q = p.1.1 in
    record {
      formed = formed;
      total = p.1.0;
      components = (at (components? M), subst (Components M.frame _ (at (components? M))) q.0 (components_computed M formed));
      labels = (at (classes? M 0), subst (Numbering (Related M 0) n (at (classes? M 0))) q.1.0 (classes_computed M formed 0));
      settles = subst (Settles M) q.1.1.0 (settling_computed M formed p.0);
      classes = renumbered (Related M r) n c.count m (at c) (λ s. get_or l s 0) (classes_computed M formed r) q.1.1.1.0 q.1.1.1.1;
    }
