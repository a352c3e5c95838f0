use Rattle.std.proofs.Common.{arith, rules}
use Rattle.std.proofs.lemmas.Grind.{common_steps}
use Rattle.kripke.specs.Models.{words_at}
use Rattle.models.proofs.Comparing.{same_below}
use Rattle.models.proofs.Model.facts.Goals as goal

pub returns : goal.returns
returns g c =
    let M = g.Self.Model.means c.args.self.now in
    let sound = (g.Self.Model.formed c.args.self.now).labels in
    same_below M.labels.count _ (words_at M c.args.s) (λ a past. c.from_fn.ensures.past a (omega arith)) (λ a past. grind (arith, common_steps, sound.within)) (λ a l.
    let told = c.from_fn.ensures.below a (omega arith) (omega (arith, sound.few_words)) in
    search rules)
