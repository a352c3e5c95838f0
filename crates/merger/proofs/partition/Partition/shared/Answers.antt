use Rattle.std.proofs.Common.{◌≡◌, ◌+◌, ◌<◌, sym, subst, arith}
use Rattle.std.proofs.lemmas.Bool.{iff_false}
use Rattle.std.proofs.lemmas.List.{length-take, get_or-take}
use Rattle.sets.specs.Sets.{none}
use Rattle.merger.proofs.Looking.{SharedBelow, shared_on, shared_off}
use Rattle.merger.proofs.partition.Partition.shared.Goals as goal
use Rattle.merger.proofs.partition.Partition.shared.Goals.{then-several, else-several}

pub loop-class-preserved : goal.loop-class-preserved
loop-class-preserved c =
    let members = c.args.self.now.members in
    let n = c.loop-class.class-index in
    let low : n < c.args.self.now.classes = omega (arith, length-take c.args.self.now.classes members) in
    let e = get_or-take c.args.self.now.classes members n none low in
    elim c.if-several.branch [
      | then-several w ↦ subst (λ all. SharedBelow members all (n + 1)) (sym w.all-is)
          (shared_on members c.loop-class.all _ n c.loop-class.invariant (rw e at (c.several.ensures.0 w.if-several.true)) (rw e at w.or-all.ensures.means))
      | else-several w ↦ subst (λ all. SharedBelow members all (n + 1)) (sym w.all-is)
          (shared_off members c.loop-class.all n c.loop-class.invariant (rw e at (iff_false c.several.ensures w.if-several.false)))
    ]

pub returns : goal.returns
returns c =
    let e : c.loop-class.class-index ≡ c.args.self.now.classes = omega (arith, length-take c.args.self.now.classes c.args.self.now.members) in
    subst (λ n. SharedBelow c.args.self.now.members c.loop-class.all n) e c.loop-class.invariant
