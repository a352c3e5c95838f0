use Rattle.std.proofs.Common.{length, ap, ◌∙◌, inl, arith}
use Rattle.std.proofs.lemmas.Iterator.Consumers.{count_from_yields_List}
use Rattle.sets.specs.Sets.{members}
use Rattle.sets.proofs.Members.{members_few}
use Rattle.sets.proofs.Iterating.{gives_members}
use Rattle.sets.proofs.Set.count.Goals as goal

pub count-requires-clause-fits : goal.count-requires-clause-fits
count-requires-clause-fits c = inl (omega (arith, members_few c.into_iter.result.left))

pub returns : goal.returns
returns c = count_from_yields_List _ _ c.count.ensures.ran (gives_members c.into_iter.result) ∙ ap (λ x. length (members x)) c.into_iter.ensures.into_iter_gives
