use Rattle.std.proofs.Common.{◌≡◌, ℕ, ◌<◌, ◌↔◌, get_or, take, sym, subst, inl, inr, ⊎_elim, ◌∙◌, arith}
use Rattle.std.proofs.lemmas.List.{length-take, length-set, get_or-take}
use Rattle.sets.specs.Sets.{In}
use Rattle.merger.specs.declared.partition.Partition.{Partition}
use Rattle.merger.specs.Grids.{at, set_at}
use Rattle.merger.proofs.Closing.{next_known, known_more, known_all, reaches_next}
use Rattle.merger.proofs.closure.close.Goals as goal

pub loop-k-preserved : goal.loop-k-preserved
loop-k-preserved c =
    let P : Partition = c.args.classes.now in
    let few = P.few in
    let order = c.args.order.now in
    let i = c.loop-k.k-index in
    let k = get_or (take c.len.result order) i 0 in
    let inside : i < P.len = omega (arith, length-take c.len.result order, c.len.ensures) in
    let is : k ≡ at order i = get_or-take c.len.result order i 0 (omega (arith, inside, c.len.ensures)) in
    let low : k < P.len = subst (λ x. x < P.len) (sym is) (c.requires.low i inside) in
    let next : (m : ℕ) → In c.and-next.result m ↔ (In (set_at c.args.moves.now k) m × ((m < P.len) × (at P.class m ≡ at P.class k) × (m ≡ k → ⊥))) = λ m. (
      (λ h. let a = (c.and-next.ensures m).0 h in (a.0, (c.mates_of.ensures m).0 a.1)),
      (λ p. (c.and-next.ensures m).1 (p.0, (c.mates_of.ensures m).1 p.1)),
    ) in
    let right = next_known c.args.moves.now P order c.loop-k.reach i k is c.loop-k.invariant.0 c.requires inside c.and-next.result next in (
      known_more c.args.moves.now P order c.loop-k.reach i k is c.loop-k.invariant.0 c.with.result (omega (arith, low, few, c.loop-k.invariant.1))
          (reaches_next c.args.moves.now P k low c.and-next.result next c.loop-k.reach right c.with.result (λ l. (
            (λ h. ⊎_elim (λ u. inl ((c.union.ensures l).0 u)) inr ((c.with.ensures l).0 h)),
            (λ h. (c.with.ensures l).1 (⊎_elim (λ u. inl ((c.union.ensures l).1 u)) inr h)),
          ))),
      length-set c.loop-k.reach k c.with.result ∙ c.loop-k.invariant.1,
    )

pub returns : goal.returns
returns c =
    let P : Partition = c.args.classes.now in
    let few = P.few in
    known_all c.args.moves.now P c.args.order.now c.loop-k.reach c.loop-k.k-index c.requires (omega (arith, length-take c.len.result c.args.order.now, c.len.ensures)) c.loop-k.invariant.0
