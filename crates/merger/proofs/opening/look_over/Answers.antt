use Rattle.std.proofs.Common.{◌≡◌, ℕ, ◌<◌, length, take, refl, ap, sym, ◌∙◌, subst, arith, rules}
use Rattle.std.proofs.lemmas.List.{length-take-le, get_or-take}
use Rattle.sets.specs.Sets.{none}
use Rattle.kripke.specs.Numbering.{Ranked}
use Rattle.components.specs.Alike.{AlikeMoves}
use Rattle.kripke.proofs.Ranking.{ranked_count}
use Rattle.components.proofs.Finding.{answers_front}
use Rattle.merger.specs.declared.partition.Partition.{Partition}
use Rattle.merger.specs.Grids.{at}
use Rattle.merger.specs.Tables.{words_of}
use Rattle.merger.proofs.Starting.{spoken_words, spoken_there, linked_passes, linked_alike, sorted}
use Rattle.merger.proofs.opening.look_over.Goals as goal

pub returns-clause-surveyed : goal.returns-clause-surveyed
returns-clause-surveyed g c =
    let M = g.M.Model.means c.args.model.now in
    let e = c.size-size.ensures in
    let labels = c.put_by_labels.ensures in
    let told = c.write_facts.ensures in
    let alike = linked_alike M c.args.rows.now c.requires.linked c.write_facts.new.facts told c.put_by_labels.new.labels c.size-size.result e labels.len labels.numbers
    c.write_alike.new.alike c.write_alike.ensures in
    let few = c.requires.admitted.0.1 in
    let answer = answers_front M c.write_alike.new.alike c.size-size.result e (omega (arith, few, e)) (search rules) alike _ _ _ _ _ _ c.find_in_rows.result c.find_in_rows.ensures in
    let found = rw c.unwrap-parts.ensures at answer in
    let K = found.1.components in
    let component = c.find_in_rows.new.part in
    let count = c.unwrap-parts.result.count in
    let P : Partition = c.by_numbers.new.self in
    let n = c.by_numbers.ensures in
    let sized : P.len ≡ M.frame.size = n.len ∙ e in
    let same : (s : ℕ) → s < M.frame.size → at P.class s ≡ at component s = λ s h. n.same s (omega arith) in
    let counted : count ≡ P.classes = ranked_count M.frame.size count P.classes (at component) (at P.class) K.ranked
    (subst (λ k. Ranked k (at P.class) P.classes) e n.ranked)
    (λ s t h k. ((λ o. same s h ∙ o ∙ sym (same t k)), (λ o. sym (same s h) ∙ o ∙ same t k))) in
    record {
      formed = g.M.Model.formed c.args.model.now;
      admitted = c.requires.admitted;
      states = c.size-found.ensures;
      words = c.words-found.ensures;
      facts = λ s h.
          let low = P.low s (omega arith) in
          let first = c.write_first.ensures (at P.class s) low in
          spoken_words M (g.M.Model.formed c.args.model.now) component c.write_first.new.first count K s h
          (spoken_there M P component sized same c.write_first.new.first s h (first.0, first.1.state, first.1.has, λ a. ap (λ x. words_of x a) first.2 ∙ told first.0 (omega (arith, first.1.state, sized)) a));
      components = K;
      moves = λ k l h.
          let m = c.write_moves.ensures k l (omega arith) in
          let p = linked_passes M P component sized same c.args.rows.now c.requires.linked k l in
          ((λ o. p.0 (m.0 o)), (λ o. m.1 (p.1 o)));
    }

pub returns-clause-sorted : goal.returns-clause-sorted
returns-clause-sorted g c =
    let M = g.M.Model.means c.args.model.now in
    let S = returns-clause-surveyed g c in
    let found = (rw c.unwrap-parts.ensures at c.find_in_rows.ensures).1 in
    let n = c.size-size.result in
    let e = c.size-size.ensures in
    let few = c.requires.admitted.0.1 in
    let rows = c.write_alike.new.alike in
    let wide : length rows ≡ 128 = search rules in
    let labels = c.put_by_labels.ensures in
    let alike = linked_alike M c.args.rows.now c.requires.linked c.write_facts.new.facts c.write_facts.ensures c.put_by_labels.new.labels n e labels.len labels.numbers
    rows c.write_alike.ensures in
    sorted M _ S (take n rows) c.args.found.now.component c.unwrap-parts.result found
    (length-take-le n rows (omega (arith, wide, few, e)) ∙ e)
    refl
    (λ s l. subst (AlikeMoves M s) (sym (get_or-take n rows s none (omega (arith, l, e)))) (alike s l))
