use Rattle.std.proofs.Common.{◌≡◌, ℕ, ◌<◌, ap, ◌∙◌, ⊎_elim, arith}
use Rattle.std.proofs.lemmas.Bool.{cases_eq}
use Rattle.std.proofs.lemmas.List.{length-take, get_or-take}
use Rattle.merger.specs.declared.partition.Partition.{Partition}
use Rattle.merger.specs.Grids.{at}
use Rattle.merger.proofs.Joining.{ranked_more, next_there}
use Rattle.merger.proofs.partition.Partition.by_numbers.Goals as goal

pub put-requires-clause-class : goal.put-requires-clause-class
put-requires-clause-class c =
    let i = c.loop-class.invariant in
    let k = c.loop-class.class-index in
    let number = c.args.number.now in
    let low : k < c.args.len = omega (arith, length-take c.args.len number) in
    omega (arith, get_or-take c.args.len number k 0 low, next_there c.loop-class.self number c.args.len c.requires.ranked.0 k c.requires.ranked.1 low i.items i.same)

pub loop-class-preserved : goal.loop-class-preserved
loop-class-preserved c =
    let P : Partition = c.loop-class.self in
    let P' : Partition = c.put.new.self in
    let k = c.loop-class.class-index in
    let number = c.args.number.now in
    let i = c.loop-class.invariant in
    let e = c.put.ensures in
    let items = i.items in
    let len = e.len in
    let low : k < c.args.len = omega (arith, length-take c.args.len number) in
    let here : k ≡ P.len = omega arith in
    let kept = λ (j : ℕ) (h : j < k). e.others j (omega arith) in
    let last : at P'.class k ≡ at number k = ap (at P'.class) here ∙ e.last ∙ get_or-take c.args.len number k 0 low in
    record {
      items = omega arith;
      same = λ j h. ⊎_elim
          (λ is. ap (at P'.class) is ∙ last ∙ ap (at number) (let s : k ≡ j = omega arith in s))
          (λ other. kept j (omega arith) ∙ i.same j (omega arith))
          (cases_eq j k);
      ranked = ranked_more k P.classes (at number k) P'.classes (at P.class) (at P'.class) i.ranked
          (next_there P number c.args.len c.requires.ranked.0 k c.requires.ranked.1 low i.items i.same) last kept (rw (get_or-take c.args.len number k 0 low) at e.classes);
    }
