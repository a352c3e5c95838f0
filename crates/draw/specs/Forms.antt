-- The arguments that ask for a drawing.
use Rattle.std.specs.Prelude.{◌≡◌, ℕ, ◌↔◌, List, [], codes, Ok, Result}
use Rattle.draw.specs.declared.Form.{Form}
use Rattle.draw.specs.declared.Form.TheVariants.{Full, Reduced}
use Rattle.draw.specs.declared.UnknownForm.{UnknownForm}

-- what is asked for with no argument, and with one
abbrev pub argument : Form → List ℕ
argument Full = []
argument Reduced = codes "reduced"

-- the answer is the form that the arguments ask for, if they ask for one
abbrev pub Asks : List ℕ → Result Form UnknownForm → Type 0
Asks words r = (form : Form) → (r ≡ Ok form) ↔ (words ≡ argument form)
