use Rattle.std.proofs.Common.{length}
use Rattle.second.proofs.Counting.{counted}
use Rattle.second.proofs.lists.count_of_len.Goals as goal

pub returns : goal.returns
returns g c = counted (length c.args.alphabet.now) c.args.len c.unwrap_or-places.result c.try_from.result c.checked_pow.result c.try_from.ensures c.unwrap_or-places.ensures c.checked_pow.ensures
