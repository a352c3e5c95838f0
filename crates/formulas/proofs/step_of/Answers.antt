use Rattle.std.proofs.Common.{◌≡◌, ℕ, ◌<◌, ◌↔◌, List, ◌∷◌, Option, Some, None, decimal, sym, subst, arith, rules}
use Rattle.std.proofs.lemmas.Grind.{common_steps}
use Rattle.std.specs.Option.{option_map}
use Rattle.checker.specs.declared.steps.Step.TheVariants.{Word}
use Rattle.formulas.specs.Words.{Reads}
use Rattle.formulas.proofs.step_of.Goals as goal

-- w and what names the number are read as that word
word_read : (w text : List ℕ) (number : Option ℕ) → ((n : ℕ) → (number ≡ Some n) ↔ ((n < 64) × (text ≡ decimal n))) → w ≡ 119 ∷ text → Reads w (option_map Word number)
word_read w text None h e x = grind (arith, common_steps)
word_read w text (Some a) h e x = grind (arith, common_steps, h a)

pub returns-in_ok-strip_prefix-in_default : goal.returns-in_ok-strip_prefix-in_default
returns-in_ok-strip_prefix-in_default c =
    let is_map : c.map.result ≡ option_map Word c.word_number.result = search rules in
    subst (Reads c.args.word.now) (sym is_map) (word_read c.args.word.now _ _ c.word_number.ensures (search rules))
