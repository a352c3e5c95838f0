use Rattle.std.proofs.Common.{sym, ap, ◌∙◌}
use Rattle.std.specs.Prelude.{slice_get}
use Rattle.std.proofs.lemmas.Iterator.Adapters.{option_map_id}
use Rattle.std.proofs.lemmas.Iterator.Consumers.{nth_from_yields_List}
use Rattle.sets.specs.Sets.{members}
use Rattle.sets.proofs.Iterating.{gives_members}
use Rattle.sets.proofs.Set.nth.Goals as goal

pub returns : goal.returns
returns c =
    sym (option_map_id c.nth.result)
    ∙ nth_from_yields_List _ _ _ c.nth.ensures.ran (gives_members c.into_iter.result)
    ∙ ap (λ x. slice_get (members x) c.args.k) c.into_iter.ensures.into_iter_gives
