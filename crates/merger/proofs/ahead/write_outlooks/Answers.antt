use Rattle.std.proofs.Common.{◌↔◌, ⊎_elim, subst, sym}
use Rattle.sets.specs.declared.Set.{Set}
use Rattle.sets.specs.Sets.{In}
use Rattle.sets.proofs.Bits.{in_dec, none_in}
use Rattle.merger.specs.declared.partition.Partition.{Partition}
use Rattle.merger.specs.Grids.{set_at}
use Rattle.merger.specs.Reaching.{Outlook}
use Rattle.merger.proofs.Looking.{outlook_from, outlook_own}
use Rattle.merger.proofs.ahead.write_outlooks.Goals as goal

pub returns-then-not-same : goal.returns-then-not-same
returns-then-not-same c k h =
    let P : Partition = c.args.classes.now in
    let next = c.write_ahead.new.rows in
    let moves = c.args.moves.now in
    let still : Set = c.still.result in
    ⊎_elim
    (λ own d. subst (λ (x : Set). In x d ↔ Outlook c.args.reach.now moves P k d) (sym (c.write_unions.ensures.others k (λ far. ((c.minus-far.ensures.means k).0 far).1 own)))
    (outlook_own c.args.reach.now moves next P k (c.requires.wanted k h) (λ l. c.still.ensures k l own) (c.write_ahead.ensures.wanted k h) d))
    (λ out.
    outlook_from c.args.reach.now moves next P c.args.wanted (set_at c.write_unions.new.rows k) k h c.requires.closed c.write_ahead.ensures.wanted
    (c.write_unions.ensures.made k ((c.minus-far.ensures.means k).1 (h, out))))
    (in_dec still.bits k)

pub returns-else-not-same : goal.returns-else-not-same
returns-else-not-same c k h =
    let P : Partition = c.args.classes.now in
    let still : Set = c.still.result in
    ⊎_elim
    (λ own. outlook_own c.args.reach.now c.args.moves.now c.write_ahead.new.rows P k (c.requires.wanted k h) (λ l. c.still.ensures k l own) (c.write_ahead.ensures.wanted k h))
    (λ out. absurd (none_in k ((c.same.ensures.0 c.if-not-same.false k).0 ((c.minus-far.ensures.means k).1 (h, out)))))
    (in_dec still.bits k)
