use Rattle.std.proofs.Common.{ap, ◌∙◌, rules, tests}
use Rattle.std.proofs.lemmas.Iterator.{YieldsList-from_map, items_from_collect}
use Rattle.std.proofs.lemmas.Iterator.Adapters.{YieldsList-from_vec}
use Rattle.std.proofs.lemmas.Result.{IfOk-weaker}
use Rattle.second.proofs.Totals.{all_told, told_clone}
use Rattle.second.proofs.tables.models_of.Goals as goal

pub returns : goal.returns
returns c few =
    let h = items_from_collect c.collect.result c.collect.ensures.ran
    (YieldsList-from_map _ (λ states. record { states = states })
    (YieldsList-from_vec c.in_ok-all.all.items (cc) (ap (λ it. it.rest.len) c.map.ensures.source ∙ (c.into_iter.ensures.len ∙ c.in_ok-all.all.ok.0)))
    c.map.ensures.closure (λ x r q k. search (rules, tests))) in
    IfOk-weaker c.collect.result _ _
    (λ models is. all_told _ told_clone c.args.size models.items c.in_ok-possible.field-0.possible.items c.in_ok-all.all.items is
    (c.in_ok-possible.ensures few) (rw (c.deref.ensures.value, c.from.ensures) at c.in_ok-all.ensures)) h
