use Rattle.std.proofs.Common.{refl, arith}
use Rattle.components.proofs.Enter.{less}
use Rattle.components.proofs.Steps.{room, begun}
use Rattle.components.proofs.search.Search.explore.Goals as goal

pub enter-top-requires : goal.enter-top-requires
enter-top-requires c = let r = room _ _ _ c.requires.resting.0 c.requires.root in record { state = (r.0, r.1); room = r.2 }

pub loop-next-init : goal.loop-next-init
loop-next-init c = (
  begun _ _ _ _ c.requires.resting c.requires.root c.enter-top.ensures,
  omega (arith, less _ _ _ c.requires.resting.0 c.requires.root _ c.enter-top.ensures),
)

pub loop-next-preserved : goal.loop-next-preserved
loop-next-preserved c = (c.in-Some.ensures.next.going, omega (arith, c.in-Some.ensures.next.seen, c.loop-next.invariant.1))

pub loop-next-smaller : goal.loop-next-smaller
loop-next-smaller c = c.in-Some.ensures.next.falls

pub returns : goal.returns
returns c = record {
  resting = (c.in_default.ensures.next.going, c.in_default.ensures.over refl);
  seen = omega (arith, c.in_default.ensures.next.seen, c.loop-next.invariant.1);
}
