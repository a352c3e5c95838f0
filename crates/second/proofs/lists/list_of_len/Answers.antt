use Rattle.std.proofs.Common.{◌≡◌, sym, subst, arith}
use Rattle.std.proofs.lemmas.Nat.{mod_below}
use Rattle.second.proofs.Listing.{Ending, ending_none, ending_some, ending_more, ending_all}
use Rattle.second.proofs.lists.list_of_len.Goals as goal

pub loop-place-init : goal.loop-place-init
loop-place-init g c = rw c.in_ok-items.ensures.items (ending_none g.T.Clone.is_clone c.args.alphabet.now c.args.len c.args.number c.requires)

pub nonzero_rem-rest : goal.nonzero_rem-rest
nonzero_rem-rest g c = ending_some g.T.Clone.is_clone c.args.alphabet.now c.args.len c.args.number _ _ _ c.loop-place-test.true c.loop-place.invariant

pub bounds-alphabet-rest : goal.bounds-alphabet-rest
bounds-alphabet-rest g c = mod_below c.loop-place.rest _ (nonzero_rem-rest g c)

pub offset_bounds-alphabet-rest : goal.offset_bounds-alphabet-rest
offset_bounds-alphabet-rest g c = omega (arith, bounds-alphabet-rest g c)

pub nonzero_div-rest : goal.nonzero_div-rest
nonzero_div-rest g c = ending_some g.T.Clone.is_clone c.args.alphabet.now c.args.len c.args.number _ _ _ c.loop-place-test.true c.loop-place.invariant

pub loop-place-preserved : goal.loop-place-preserved
loop-place-preserved g c =
    rw c.in_ok-push.ensures.items
    (ending_more g.T.Clone.is_clone c.args.alphabet.now c.args.len c.args.number c.loop-place.items.items c.loop-place.rest c.loop-place._place
    c.index-alphabet-rest.result c.in_ok-clone.field-0 c.loop-place-test.true c.loop-place.invariant
    (rw (sym c.index-alphabet-rest.is) c.in_ok-clone.ensures.cases))

pub returns : goal.returns
returns g c =
    let full : c.loop-place._place ≡ c.args.len = omega (arith, c.loop-place-test.false, c.loop-place.auto) in
    rw c.reverse.ensures.items (ending_all g.T.Clone.is_clone c.args.alphabet.now c.args.len c.args.number c.loop-place.items.items c.loop-place.rest
    (subst (Ending g.T.Clone.is_clone c.args.alphabet.now c.args.len c.args.number c.loop-place.items.items c.loop-place.rest) full c.loop-place.invariant))
