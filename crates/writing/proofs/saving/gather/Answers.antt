use Rattle.std.proofs.Common.{◌≡◌, ℕ, ◌+◌, ◌<◌, ◌≤◌, List, [], ◌∷◌, ◌++◌, length, get_or, take, drop, sym, refl, ap, ◌∙◌, subst, arith}
use Rattle.std.proofs.lemmas.List.{length-take-le, take_all, take_more}
use Rattle.kripke.specs.Models.{nowhere}
use Rattle.models.proofs.Remaining.{move_next, move_none}
use Rattle.codec.specs.Pieces.{placed}
use Rattle.codec.proofs.Places.{placed-set, take-placed}
use Rattle.writing.proofs.saving.gather.Goals as goal

-- the moves of a row stand at the front of a table, all of them
all_there : (before table moves : List ℕ) (count : ℕ) → table ≡ placed before 0 (take count moves) → count ≤ length moves → length moves ≤ count →
    take count table ≡ moves
all_there before table moves count e few all =
    let is : take count moves ≡ moves = take_all count moves all in
    let long : count ≡ 0 + length moves = omega (arith, few, all) in
    ap (take count) (e ∙ ap (placed before 0) is) ∙ (ap (λ k. take k (placed before 0 moves)) long ∙ take-placed before moves 0 (omega arith))

pub loop-target-init : goal.loop-target-init
loop-target-init g c = (refl, c.into_iter-target-iterator.ensures.into_iter_gives ∙ c.moves-target-items.ensures, omega arith)

pub offset_bounds-row-count : goal.offset_bounds-row-count
offset_bounds-row-count g c =
    let moves = (g.M.Model.means c.args.model.now).frame.row c.args.s in
    let few : length moves ≤ 4096 = (g.M.Model.formed c.args.model.now).frame.few_moves c.args.s in
    omega (arith, few, c.loop-target.invariant.2)

pub bounds-row-count : goal.bounds-row-count
bounds-row-count g c =
    let moves = (g.M.Model.means c.args.model.now).frame.row c.args.s in
    let few : length moves ≤ 4096 = (g.M.Model.formed c.args.model.now).frame.few_moves c.args.s in
    let step = move_next moves c.loop-target.count c.in-Some.target c.next.new.self (sym c.loop-target.invariant.1 ∙ c.in-Some.ensures.steps) in
    omega (arith, few, step.0)

pub overflow_add-count : goal.overflow_add-count
overflow_add-count g c =
    let moves = (g.M.Model.means c.args.model.now).frame.row c.args.s in
    let few : length moves ≤ 4096 = (g.M.Model.formed c.args.model.now).frame.few_moves c.args.s in
    omega (arith, few, c.loop-target.invariant.2)

pub loop-target-preserved : goal.loop-target-preserved
loop-target-preserved g c =
    let moves = (g.M.Model.means c.args.model.now).frame.row c.args.s in
    let few : length moves ≤ 4096 = (g.M.Model.formed c.args.model.now).frame.few_moves c.args.s in
    let k = c.loop-target.count in
    let step = move_next moves k c.in-Some.target c.next.new.self (sym c.loop-target.invariant.1 ∙ c.in-Some.ensures.steps) in
    let taken : length (take k moves) ≡ k = length-take-le k moves (omega (arith, step.0)) in (
      placed-set c.args.row.now c.loop-target.row (take k moves) 0 k c.in-Some.target (omega (arith, c.told-row, few, step.0, taken)) c.loop-target.invariant.0 (omega (arith, taken))
          ∙ ap (placed c.args.row.now 0) (ap (λ t. take k moves ++ (t ∷ [])) (sym step.1) ∙ sym (take_more moves k nowhere step.0)),
      step.2,
      omega (arith, step.0),
    )

pub shared_ref_as_front-result : goal.shared_ref_as_front-result
shared_ref_as_front-result g c =
    let moves = (g.M.Model.means c.args.model.now).frame.row c.args.s in
    let few : length moves ≤ 4096 = (g.M.Model.formed c.args.model.now).frame.few_moves c.args.s in
    omega (arith, few, c.loop-target.invariant.2)

pub returns : goal.returns
returns g c =
    let moves = (g.M.Model.means c.args.model.now).frame.row c.args.s in
    let i = c.loop-target.invariant in
    all_there c.args.row.now c.loop-target.row moves c.loop-target.count i.0 i.2 (move_none moves c.loop-target.count (sym i.1 ∙ c.in-None.ensures.steps.0))
