use Rattle.codec.proofs.Laid.{lays_whole}
use Rattle.exchange.proofs.Lengths.{members_room}
use Rattle.exchange.proofs.Lists.{listing_told}
use Rattle.exchange.proofs.listing.listing.Goals as goal

pub returns : goal.returns
returns c =
    let whole = lays_whole _ _ _ _ (members_room c.args.analysis.now) c.put-len.ensures in
    rw c.ok_or.ensures.value (listing_told _ _ _ _ _ c.in_ok-summary.ensures c.if-not-summary.false (rw (whole, c.as_slice.ensures) at c.write.ensures))
