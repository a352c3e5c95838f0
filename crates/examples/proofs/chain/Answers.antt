use Rattle.std.proofs.Common.{refl}
use Rattle.worked.specs.Cases.{chain_listed}
use Rattle.examples.proofs.chain.Goals as goal

pub returns : goal.returns
unfolding chain_listed
returns c = (refl, refl, refl)
