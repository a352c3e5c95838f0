use Rattle.std.proofs.Common.{◌≡◌, ◌+◌, sym, arith, rules}
use Rattle.second.proofs.Totals.{one_more, none_below}
use Rattle.second.proofs.tables.small_models.Goals as goal
use Rattle.second.proofs.tables.small_models.Goals.{else-loop-size-test, then-loop-size-test+in_ok-models_of+in_ok-append+else-size-most}

pub loop-size-init : goal.loop-size-init
loop-size-init c = ((λ few. rw c.new-models.ensures.items none_below), omega arith)

pub loop-size-preserved : goal.loop-size-preserved
loop-size-preserved c = (
  (λ few. rw c.in_ok-append.ensures.items
      (one_more c.loop-size.size _ _ c.loop-size.auto.size (c.loop-size.invariant.0 few) (c.in_ok-models_of.ensures (omega (arith, few, c.loop-size-test.true))))),
  omega (arith, c.loop-size.auto, c.loop-size-test.true),
)

pub returns : goal.returns
returns c few = elim c.loop-size-test.branch [
  | else-loop-size-test w ↦
      let last : c.loop-size.size ≡ c.args.most + 1 = omega (arith, w.loop-size-test.false, c.loop-size.invariant.1) in
      rw (w.models-is, sym last) (c.loop-size.invariant.0 few)
  | then-loop-size-test+in_ok-models_of+in_ok-append+else-size-most w ↦
      let last : c.loop-size.size ≡ c.args.most = search rules in
      rw (w.models-is, w.in_ok-append.ensures.items, sym last)
      (one_more c.loop-size.size _ _ c.loop-size.auto.size (c.loop-size.invariant.0 few) (w.in_ok-models_of.ensures (omega (arith, few, w.loop-size-test.true))))
]
