use Rattle.std.proofs.Common.{ℕ, ◌<◌, ◌≤◌, length, refl, arith}
use Rattle.models.specs.declared.facts.Facts.{Facts}
use Rattle.modelfile.proofs.Filling.{fill_step, fill_all}
use Rattle.modelfile.proofs.fill.fill_labels.Goals as goal

pub loop-label-preserved : goal.loop-label-preserved
loop-label-preserved c ls next many seq =
    let more : c.loop-label.label-index < length ls = omega arith in
    fill_step (λ (x : Facts). x.bits) (λ (n : ℕ). record { bits = n }) (λ x. refl) _ _ ls many _ _ _ next _ _ (record { bits = 0 }) more (c.loop-label.invariant ls next many seq) c.number.ensures

pub returns : goal.returns
returns c ls next many seq =
    let all : length ls ≤ c.loop-label.label-index = omega arith in
    fill_all (λ (x : Facts). x.bits) (λ (n : ℕ). record { bits = n }) (λ x. refl) _ _ ls many _ _ _ next all (c.loop-label.invariant ls next many seq)
