use Rattle.std.proofs.Common.{ℕ, ap, refl, arith}
use Rattle.stack.specs.Held.{Held}
use Rattle.components.specs.declared.marks.Walk.{Walk}
use Rattle.components.proofs.Whole.{start}
use Rattle.components.proofs.search.Search.new.Goals as goal

pub returns : goal.returns
returns c = λ rows e. start rows _ _ e c.requires.0
    (omega (arith, c.requires.2, ap (λ (h : Held ℕ). h.room) c.new.ensures))
    (omega (arith, c.requires.1, ap (λ (h : Held Walk). h.room) c.new-2.ensures))
    c.below-all.ensures
    (rw (c.new.ensures, c.new-2.ensures) refl)
