use Rattle.std.proofs.Common.{ℕ, ◌<◌, ◌≤◌, List, length, get_or, sym, refl, subst, arith, rules}
use Rattle.std.proofs.ByRecursion.{All-get_or}
use Rattle.std.proofs.lemmas.List.{map-id}
use Rattle.modelfile.specs.Fills.{Sequence}
use Rattle.modelfile.proofs.Filling.{fill_none, fill_next, fill_step, fill_all}
use Rattle.modelfile.proofs.fill.read_row.Goals as goal

pub loop-target-init : goal.loop-target-init
loop-target-init c row next many seq =
    fill_none (λ (t : ℕ). t) (λ (t : ℕ). t) (λ t. refl) _ c.args.row.now row many _ next (subst (λ (ts : List ℕ). Sequence c.args.file.now c.args.at.now ts next) (sym (map-id row)) seq)

pub overflow_cast-target : goal.overflow_cast-target
overflow_cast-target c =
    let row = c.requires.row in
    let many = c.requires.many in
    let more : c.loop-target.target-index < length row = omega arith in
    let here = c.loop-target.invariant row c.requires.next many c.requires.stands in
    let is = fill_next (λ (t : ℕ). t) (λ (t : ℕ). t) (λ t. refl) _ _ row many _ _ _ _ _ _ 0 more here c.number.ensures in
    let low : get_or row c.loop-target.target-index 0 < 4096 = All-get_or (λ t. t < 4096) row c.loop-target.target-index 0 more c.requires.below in
    let small : c.number.result < 4096 = omega (arith, is.0) in
    search rules

pub loop-target-preserved : goal.loop-target-preserved
loop-target-preserved c row next many seq =
    let more : c.loop-target.target-index < length row = omega arith in
    fill_step (λ (t : ℕ). t) (λ (t : ℕ). t) (λ t. refl) _ _ row many _ _ _ next _ _ 0 more (c.loop-target.invariant row next many seq) c.number.ensures

pub returns : goal.returns
returns c row next many seq =
    let all : length row ≤ c.loop-target.target-index = omega arith in
    fill_all (λ (t : ℕ). t) (λ (t : ℕ). t) (λ t. refl) _ _ row many _ _ _ next all (c.loop-target.invariant row next many seq)
