use Rattle.std.proofs.Common.{◌≡◌, ℕ, ◌<◌, length, get_or, set, replicate, sym, ◌∙◌, subst, arith, below_more}
use Rattle.std.proofs.lemmas.List.{length-take-le, get_or-set_same, get_or-set_other}
use Rattle.sets.specs.declared.Set.{Set}
use Rattle.sets.specs.Sets.{none}
use Rattle.kripke.specs.Models.{TotalRow}
use Rattle.survey.specs.Gaps.{RowIs}
use Rattle.survey.proofs.Rows.{linked_front}
use Rattle.survey.proofs.rows_of.Goals as goal

pub loop-s-preserved : goal.loop-s-preserved
loop-s-preserved g c =
    let F = (g.M.Model.means c.args.m.now).frame in
    let s = c.loop-s.s in
    let x = c.in_ok-row.field-0 in
    let got = c.in_ok-row.ensures in (
      below_more (λ j. TotalRow F.size (F.row j)) s c.loop-s.invariant.0 got.0,
      below_more (λ j. RowIs F j (get_or (set c.loop-s.row-items s x) j none)) s
          (λ j l. subst (λ (y : Set). RowIs F j y) (sym (get_or-set_other c.loop-s.row-items s j x none (λ e. omega arith))) (c.loop-s.invariant.1 j l))
          (subst (λ (y : Set). RowIs F s y) (sym (get_or-set_same c.loop-s.row-items s x none (omega arith))) got.1),
    )

pub returns : goal.returns
returns g c =
    let F = (g.M.Model.means c.args.m.now).frame in
    let sized = c.in_ok-n.ensures in
    let long : length c.loop-s.row-items ≡ c.in_ok-n.n = c.loop-s.auto.row-items ∙ length-take-le c.in_ok-n.n (replicate 128 none) (omega arith) in
    let all : c.loop-s.s ≡ F.size = omega arith in (
      (sized.1, subst (λ n. (j : ℕ) → j < n → TotalRow F.size (F.row j)) all c.loop-s.invariant.0),
      linked_front F c.loop-s.row-items c.in_ok-n.n c.loop-s.s long all sized.0 c.loop-s.invariant.1,
    )
