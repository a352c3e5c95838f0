use Rattle.std.proofs.Common.{ℕ, ◌<◌, get_or}
use Rattle.kripke.specs.Words.{SameWords}
use Rattle.kripke.specs.Models.{words_at}
use Rattle.models.specs.Facts.{fact_words}
use Rattle.components.specs.Alike.{silent}
use Rattle.components.proofs.alike.write_words.Given as goal

abbrev pub invariant-loop-s : goal.invariant-loop-s
invariant-loop-s g l = (j : ℕ) → j < l.s → SameWords (fact_words (get_or l.facts-items j silent)) (words_at (g.M.Model.means l.model) j)
