use Rattle.std.proofs.Common.{◌≡◌, ℕ, ◌^◌, ◌<◌, rules}
use Rattle.kripke.specs.Words.{SameWords}
use Rattle.merger.specs.Grids.{at}
use Rattle.merger.specs.Tables.{words_of}
use Rattle.merger.proofs.Advancing.{numbering_as}
use Rattle.merger.proofs.Speaking.{same_words}
use Rattle.merger.proofs.labels.put_by_labels.Goals as goal

pub returns-clause-numbers : goal.returns-clause-numbers
returns-clause-numbers c =
    let facts = c.args.facts.now in
    let fits : (k : ℕ) → at facts k < 2 ^ 64 = λ k. search rules in
    numbering_as (λ j k. at facts j ≡ at facts k) (λ j k. SameWords (words_of (at facts j)) (words_of (at facts k))) c.args.count _ _
    (λ j k h l. same_words (at facts j) (at facts k) (fits j) (fits k))
    c.by_words.ensures.numbers
