use Rattle.std.proofs.Common.{◌≡◌, ltb, sym, ap, ◌∙◌, arith, rules}
use Rattle.std.proofs.lemmas.Bool.{cond-true, lt-ltb}
use Rattle.std.proofs.lemmas.Option.{slice_get_within, get_or_from_slice_get}
use Rattle.sets.specs.Sets.{members}
use Rattle.sets.proofs.Members.{members_small}
use Rattle.kripke.specs.Models.{move}
use Rattle.merger.specs.Grids.{set_at}
use Rattle.merger.proofs.Drawing.{move-slice_get}
use Rattle.merger.proofs.reduced.ReducedKripkeModel.target.Goals as goal

pub map-requires : goal.map-requires
map-requires c t e w r =
    let x = set_at c.args.self.now.moves c.args.s in
    let k = c.args.k in
    let here = sym c.nth.ensures ∙ e in
    let low = members_small x k 0 (slice_get_within (members x) k t here) in
    omega (arith, get_or_from_slice_get (members x) k t 0 here, low)

pub returns : goal.returns
returns c =
    let a = c.args.self.now in
    let row = members (set_at a.moves c.args.s) in
    let same : c.map.result ≡ c.nth.result = search (rules, c.map.ensures) in
    same ∙ c.nth.ensures ∙ move-slice_get row c.args.k
    ∙ ap (λ r. move r c.args.k) (sym (cond-true (ltb c.args.s a.states) row _ (lt-ltb c.args.s a.states c.if-s-self.false)))
