use Rattle.std.proofs.Common.{◌≡◌, drop}
use Rattle.std.specs.Iterator.Adapters.{enumerate_source, enumerate_count}
use Rattle.sets.specs.Sets.{none}
use Rattle.survey.proofs.Rows.{Clear, Begun}
use Rattle.survey.proofs.row_of.Given as goal

abbrev pub invariant-loop-k : goal.invariant-loop-k
invariant-loop-k g l =
    let row = (g.M.Model.means l.m).frame.row l.s in
    let k = enumerate_count l.k-iterator in
    (enumerate_source l.k-iterator ≡ drop k row) × Clear row k × Begun row k l.row × (k ≡ 0 → l.row ≡ none)
