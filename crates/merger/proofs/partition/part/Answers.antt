use Rattle.std.proofs.Common.{◌≡◌, ◌+◌, ◌<◌, length, replicate, refl, subst, arith, rules}
use Rattle.std.proofs.lemmas.List.{length-take, get_or-take, get_or-replicate}
use Rattle.sets.specs.Sets.{none}
use Rattle.merger.proofs.Blank.{blank}
use Rattle.merger.proofs.Placing.{Parted, parted_none, parted_past, parted_put, parted_is, parted_numbers, parted_groups, parted_spent}
use Rattle.merger.proofs.partition.part.Goals as goal
use Rattle.merger.proofs.partition.part.Goals.{then-class-k, else-class-k}

pub loop-k-init : goal.loop-k-init
loop-k-init c =
    let few = c.requires.few in (
      refl,
      refl,
      search rules,
      parted_none c.args.rows.now c.args.old.now c.args.len few _ (replicate 128 none) c.args.left.now
          (λ j h. get_or-replicate 128 j 128 0 (omega arith)) (λ c. blank 128 c none) c.requires.groups,
    )

pub loop-k-preserved : goal.loop-k-preserved
loop-k-preserved c =
    let rows = c.args.rows.now in
    let old = c.args.old.now in
    let n = c.args.len in
    let l = c.loop-k in
    let k = l.k in
    let i = l.invariant in
    let tall : length l.members ≡ 128 = i.1 in
    let wide : length l.left ≡ 128 = i.2 in
    let A = i.3 in
    let few = c.requires.few in
    let low : k < n = omega (arith, length-take n old) in
    let own = get_or-take n old k 0 low in
    let s = c.if-class-k in (
      search rules,
      search rules,
      search rules,
      elim s.branch [
        | then-class-k w ↦
            let e = w.open.ensures in
            parted_is rows old n few _ _ _ _ _ _ _ _ (k + 1) w.class-is w.members-is w.left-is w.classes-is
            (parted_put rows old n few l.class w.open.new.class l.members l.left l.classes k _ w.open.result _ A low own
            (let g = c.requires.groups.low k low in omega (arith, wide, own, g)) (let m = A.most in omega (arith, tall, m, low, few)) w.if-class-k.true e.placed e.kept e.group e.rest)
        | else-class-k w ↦
            parted_is rows old n few _ _ _ _ _ _ _ _ (k + 1) w.class-is w.members-is w.left-is w.classes-is
            (parted_past rows old n few l.class l.members l.left l.classes k A low w.if-class-k.false)
      ],
    )

pub returns : goal.returns
returns c =
    let rows = c.args.rows.now in
    let old = c.args.old.now in
    let n = c.args.len in
    let l = c.loop-k in
    let few = c.requires.few in
    let e : l.k ≡ n = omega (arith, length-take n old, c.loop-k-test.false, l.auto.k-end) in
    let A = subst (λ i. Parted rows old n l.class l.members l.left l.classes i) e l.invariant.3 in
    record {
      numbers = parted_numbers rows old n few l.class l.members l.left l.classes A;
      groups = parted_groups rows old n few l.class l.members l.left l.classes A;
      spent = parted_spent rows old n few l.class l.members l.left l.classes A;
    }
