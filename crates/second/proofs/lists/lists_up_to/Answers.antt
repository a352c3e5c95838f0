use Rattle.std.proofs.Common.{◌≡◌, sym, arith, rules}
use Rattle.std.specs.List.{AllZip}
use Rattle.second.proofs.Listing.{below_none, below_more}
use Rattle.second.proofs.lists.lists_up_to.Goals as goal
use Rattle.second.proofs.lists.lists_up_to.Goals.{else-loop-len-test, then-loop-len-test+in_ok-lists+in_ok-append+else-len-most}

pub loop-len-init : goal.loop-len-init
loop-len-init g c = rw c.new-all.ensures.items (below_none (λ list made. AllZip g.T.Clone.is_clone list made.items) c.args.alphabet.now)

pub loop-len-preserved : goal.loop-len-preserved
loop-len-preserved g c =
    rw c.in_ok-append.ensures.items
    (below_more (λ list made. AllZip g.T.Clone.is_clone list made.items) c.args.alphabet.now c.loop-len.len _ _ c.loop-len.invariant c.in_ok-lists.ensures)

pub returns : goal.returns
returns g c = elim c.loop-len-test.branch [
  | else-loop-len-test w ↦ absurd (omega (arith, w.loop-len-test.false, c.loop-len.auto))
  | then-loop-len-test+in_ok-lists+in_ok-append+else-len-most w ↦
      let last : c.loop-len.len ≡ c.args.most = search rules in
      rw (w.all-is, w.in_ok-append.ensures.items, sym last)
      (below_more (λ list made. AllZip g.T.Clone.is_clone list made.items) c.args.alphabet.now c.loop-len.len _ _ c.loop-len.invariant w.in_ok-lists.ensures)
]
