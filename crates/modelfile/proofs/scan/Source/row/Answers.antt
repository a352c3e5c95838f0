use Rattle.std.proofs.Common.{ap, rules}
use Rattle.modelfile.proofs.Short.{row_whole}
use Rattle.modelfile.proofs.scan.Source.row.Goals as goal

pub returns-in_err-degree : goal.returns-in_err-degree
returns-in_err-degree c rows more read = let fault = c.in_err-degree.ensures rows more read in search rules

pub returns-in-Some : goal.returns-in-Some
returns-in-Some c rows more read =
    let short = c.in-Some.ensures in
    row_whole _ _ _ _ _ (c.in_ok-degree.ensures rows more read) short.0 (ap (λ q. q.targets) short.1) (ap (λ q. q.at) short.1)
