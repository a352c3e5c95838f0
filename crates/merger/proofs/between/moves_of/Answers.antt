use Rattle.std.proofs.Common.{sym, subst}
use Rattle.sets.specs.declared.Set.{Set}
use Rattle.sets.specs.Sets.{In}
use Rattle.merger.specs.declared.partition.Partition.{Partition}
use Rattle.merger.proofs.between.moves_of.Goals as goal

pub returns : goal.returns
returns c l =
    let P : Partition = c.args.components.now in
    let k = c.args.k in
    let m = c.classes_of.ensures l in (
      (λ o.
          let p = m.0 o in
          let s = (c.union.ensures p.0).0 p.1 in
          let g = (P.groups.each k s.0).0 (subst (λ (x : Set). In x s.0) c.members.ensures s.1) in
          (s.0, p.0, g.0, s.2, g.1, p.2)),
      (λ p. m.1 (p.1, (c.union.ensures p.1).1 (p.0, subst (λ (x : Set). In x p.0) (sym c.members.ensures) ((P.groups.each k p.0).1 (p.2, p.4)), p.3), p.5)),
    )
