use Rattle.std.proofs.Common.{◌≡◌, eqb, refl, sym, ◌∙◌, subst, arith}
use Rattle.std.proofs.lemmas.Bool.{eqb-true, eqb-false, not-false}
use Rattle.kripke.specs.Numbering.{Numbering}
use Rattle.merger.specs.declared.partition.Partition.{Partition}
use Rattle.merger.specs.Grids.{at}
use Rattle.merger.specs.Tables.{Together}
use Rattle.sets.specs.Sets.{none}
use Rattle.merger.proofs.Blank.{blank}
use Rattle.merger.proofs.Advancing.{numbering_as, wanted_low, wanted_reached, like_together, cut_parted}
use Rattle.merger.proofs.Alone.{together_stays}
use Rattle.merger.proofs.advance.advance.Goals as goal

pub write_outlooks-requires : goal.write_outlooks-requires
write_outlooks-requires c =
    let F = c.args.found.now in
    let S = c.args.rounds.now in
    let B = c.requires in
    let w = c.shared-wanted.result in
    let s = c.shared-wanted.ensures in
    let same = B.items in
    record {
      wanted = wanted_low F S B w s;
      inside = λ k h to m. let low = wanted_low F S B w s k h in let l = B.moves k to (omega arith) m in omega arith;
      closed = wanted_reached F S B w s;
      blank = λ k. blank 128 k none;
    }

-- as many classes as before: then nothing is parted
pub narrow-requires : goal.narrow-requires
narrow-requires c = λ whole k l h b o.
    let P : Partition = c.args.rounds.now.partition in
    let p : Partition = c.refine.new.self in
    let N = c.refine.ensures in
    let many : p.classes ≡ P.classes = sym c.classes.ensures ∙ eqb-true c.classes.result c.classes-before.result (not-false (eqb c.classes.result c.classes-before.result) whole) ∙ c.classes-before.ensures in
    let near = c.requires.near k l (omega (arith, h, c.refine.ensures.len, c.requires.items)) (omega (arith, b, c.refine.ensures.len, c.requires.items)) o in
    together_stays P p N.len many (λ i j li lj e. ((N.numbers.same i j li lj).0 e).0) l k (omega arith) (omega arith) (sym near)

pub returns : goal.returns
returns c =
    let F = c.args.found.now in
    let S = c.args.rounds.now in
    let B = c.requires in
    let w = c.shared-wanted.result in
    let s = c.shared-wanted.ensures in
    let p : Partition = c.refine.new.self in
    let new = c.classes.ensures in
    let old = c.classes-before.ensures in
    record {
      made = refl;
      classes = subst (λ n. Numbering (Together F S) n (at p.class) p.classes) B.items
          (numbering_as _ _ _ _ _ (like_together F S B w s c.write_outlooks.new.rows c.write_outlooks.ensures) c.refine.ensures.numbers);
      items = c.refine.ensures.len ∙ B.items;
      reach = cut_parted F S B w s c.narrow.new.reach p c.refine.ensures.len c.narrow.ensures;
      ends = λ e. let q = eqb-true c.classes.result c.classes-before.result e in omega arith;
      goes = λ e q. eqb-false c.classes.result c.classes-before.result e (omega arith);
    }
