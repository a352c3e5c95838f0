-- As many rounds as there are states settle an analysis.
use Rattle.std.proofs.Common.{◌≡◌, ℕ, ◌<◌, ◌≤◌, subst, sym, arith}
use Rattle.kripke.specs.Models.{Kripke}
use Rattle.kripke.specs.Relation.{Settles}
use Rattle.kripke.proofs.Claims.{rounds_settle, settled_once}
use Rattle.merger.specs.Calls.{Analysed, Promises, Continues}
use Rattle.merger.specs.declared.analysis.Analysis.{Analysis}

pub run_settles : (M : Kripke) (a b : Analysis) (budget : ℕ) → Analysed M 0 a → 0 < M.frame.size → M.frame.size ≤ budget → Continues budget a b → (r : ℕ) × Settles M r × Analysed M r b × Promises M r b
run_settles M a b budget opened some enough goes =
    let g = goes M 0 opened in
    let s = rounds_settle M opened.tabled.surveyed.formed some in
    let once : g.1.0 ≡ s.0 = settled_once M g.1.0 s.0 g.1.1 s.2 in
    let last : g.0 ≡ g.1.0 = omega (arith, g.1.2, once, s.1) in
    (g.0, subst (Settles M) (sym last) g.1.1, g.2, g.3)
