use Rattle.std.proofs.Common.{◌≡◌, sym, ◌∙◌, subst, arith, rules}
use Rattle.sets.specs.Sets.{In, none}
use Rattle.kripke.specs.Numbering.{Ranked}
use Rattle.merger.specs.declared.partition.Partition.{Partition}
use Rattle.merger.specs.Grids.{at, set_at}
use Rattle.merger.proofs.Alone.{ranked_alone}
use Rattle.merger.proofs.between.write_moves.Goals as goal

-- each state is a component by itself
pub returns-then-classes-len : goal.returns-then-classes-len
returns-then-classes-len c k l h =
    let P : Partition = c.args.components.now in
    let rows = c.args.rows.now in
    let all : P.classes ≡ P.len = (sym c.classes.ensures ∙ c.if-classes-len.true ∙ c.len.ensures) in
    let own = ranked_alone P.len (at P.class) (subst (λ m. Ranked P.len (at P.class) m) all c.requires.ranked) in (
      (λ o. (k, l, omega arith, o, own k (omega arith), own l (c.requires.inside k l (omega arith) o))),
      (λ p.
          let s : p.0 ≡ k = sym (own p.0 p.2) ∙ p.4 in
          let t : p.1 ≡ l = sym (own p.1 (c.requires.inside p.0 p.1 p.2 p.3)) ∙ p.5 in
          subst (λ x. In (set_at rows x) l) s (subst (In (set_at rows p.0)) t p.3)),
    )

pub returns : goal.returns
returns c k l h =
    let P : Partition = c.args.components.now in
    let most = P.most in
    let few = P.few in
    let count = c.classes-2.ensures in
    let made = c.write.ensures.made k none ((c.below.ensures k).1 (omega arith, omega arith)) in
    (search (rules, made), search (rules, made))
