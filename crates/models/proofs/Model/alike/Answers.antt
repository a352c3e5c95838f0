use Rattle.std.proofs.Common.{ℕ, ◌<◌, tests, arith, rules}
use Rattle.std.proofs.Math.Bool.{beq}
use Rattle.std.proofs.lemmas.Iterator.{YieldsList-from_range}
use Rattle.std.proofs.lemmas.Iterator.Search.{all_from_yields_List}
use Rattle.models.proofs.Comparing.{tells_same}
use Rattle.models.proofs.Model.alike.Goals as goal

pub returns-then-t-n : goal.returns-then-t-n
returns-then-t-n g c =
    let M = g.Self.Model.means c.args.self.now in
    let sound = (g.Self.Model.formed c.args.self.now).labels in
    let v = M.labels.words c.args.s in
    let w = M.labels.words c.args.t in
    let n = M.labels.count in
    let same = tells_same n v w _ (sound.within _) (sound.within _)
    (all_from_yields_List (λ (a : ℕ). beq (v a) (w a)) _ _ _ c.all.ensures.ran (YieldsList-from_range 0 n n (cc) (omega arith)) (λ x b q k. search (rules, tests))) in
    let states : (c.args.s < M.frame.size) × (c.args.t < M.frame.size) = search rules in
    (λ yes'. (states.0, states.1, same.0 yes'), λ alike. same.1 alike.2)
