use Rattle.std.proofs.Common.{◌≤◌, refl, arith}
use Rattle.modelfile.specs.FirstFault.{at_target}
use Rattle.modelfile.proofs.Walking.{stops, targets_more}
use Rattle.modelfile.proofs.scan.Source.target.Goals as goal

pub returns-then-target-low : goal.returns-then-target-low
returns-then-target-low c rows degree given more read =
    let have = read.given in
    let sized = read.sized in
    let target = c.in_ok-target.target in
    stops _ _ (at_target read.labels read.rows degree read.targets) _ _ c.args.self.now.short read.reached
    (omega arith, refl, (target, c.in_ok-target.next, c.in_ok-target.ensures, (omega arith, λ rises. omega (arith, (read.lowest target).1 rises))))

pub returns-then-read-self : goal.returns-then-read-self
returns-then-read-self c rows degree given more read =
    let have = read.given in
    let sized = read.sized in
    let counted = read.counted in
    let target = c.in_ok-target.target in
    let full : c.args.self.now.room.targets ≤ c.args.read.now.targets = omega arith in
    stops _ _ (at_target read.labels read.rows degree read.targets) _ _ c.args.self.now.short read.reached
    (omega arith, refl, (target, c.in_ok-target.next, c.in_ok-target.ensures, (omega arith, (read.lowest target).0 c.if-target-low.false, λ room. omega arith)))

pub returns : goal.returns
returns c rows degree given more read = targets_more _ _ _ _ _ _ _ _ read more c.in_ok-target.ensures (omega arith) (omega arith) (omega arith) refl
