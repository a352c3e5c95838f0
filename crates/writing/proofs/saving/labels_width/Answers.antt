use Rattle.std.proofs.Common.{◌≡◌, ◌+◌, ◌^◌, ◌<◌, ◌≤◌, [], ◌∷◌, ◌++◌, length, sym, ap, ◌∙◌, arith, rules}
use Rattle.std.proofs.lemmas.List.{append-nil}
use Rattle.codec.specs.Numbers.{code}
use Rattle.codec.proofs.Coding.{code_few}
use Rattle.writing.proofs.Labelling.{labelled_none, labelled_more, labels_longer}
use Rattle.writing.proofs.saving.labels_width.Goals as goal

pub loop-s-init : goal.loop-s-init
loop-s-init g c =
    let M = g.M.Model.means c.args.model.now in
    let few : M.frame.size ≤ 4096 = (g.M.Model.formed c.args.model.now).frame.few_states in
    let wide = code_few M.frame.size (omega arith) in
    let is : c.width-wide.result ≡ length (code M.frame.size) = c.width-wide.ensures ∙ ap (λ n. length (code n)) c.size-states.ensures in
    (([], labelled_none M, is ∙ ap length (sym (append-nil (code M.frame.size)))), omega arith)

pub overflow_add-wide : goal.overflow_add-wide
overflow_add-wide g c =
    let small : c.facts.result.bits < 2 ^ 64 = search rules in
    let more = code_few c.facts.result.bits small in
    let few : (g.M.Model.means c.args.model.now).frame.size ≤ 4096 = (g.M.Model.formed c.args.model.now).frame.few_states in
    let low : c.loop-s.s < 4096 = omega arith in
    let sum : c.loop-s.wide + c.width-wide-in-loop-s.result < 2 ^ 64 = omega (arith, c.loop-s.invariant.1) in
    search rules

pub loop-s-preserved : goal.loop-s-preserved
loop-s-preserved g c =
    let M = g.M.Model.means c.args.model.now in
    let small : c.facts.result.bits < 2 ^ 64 = search rules in
    let more = code_few c.facts.result.bits small in
    let inv = c.loop-s.invariant in
    let labels = inv.0.0 in (
      (labels ++ (c.facts.result ∷ []), labelled_more M _ labels c.facts.result inv.0.1 small c.facts.ensures, omega (arith, inv.0.2, labels_longer M.frame.size labels c.facts.result)),
      omega (arith, inv.1),
    )
