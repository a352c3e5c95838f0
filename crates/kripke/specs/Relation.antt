-- The relation C_r that the rounds refine, with ST, NEXT and LOOP of a state.
use Rattle.std.specs.Prelude.{◌≡◌, ℕ, zero, suc, ◌<◌, ◌↔◌}
use Rattle.kripke.specs.Models.{Frame, Kripke, Alike}
use Rattle.kripke.specs.Paths.{Move, Trail}

-- t is in ST(s): reached from s by moves among states that C relates to s
abbrev pub ST : Frame → (ℕ → ℕ → Type 0) → ℕ → ℕ → Type 0
ST F C s t = (n : ℕ) × Trail (Move F) (C s) n s t

-- t is in NEXT(s): outside ST(s), and one move from ST(s)
abbrev pub NEXT : Frame → (ℕ → ℕ → Type 0) → ℕ → ℕ → Type 0
NEXT F C s t = (u : ℕ) × (ST F C s t → ⊥) × ST F C s u × Move F u t

-- LOOP(s) is yes: ST(s) holds a cycle, a path of at least one move inside it that ends where it began
abbrev pub LOOP : Frame → (ℕ → ℕ → Type 0) → ℕ → Type 0
LOOP F C s = (x n : ℕ) × Trail (Move F) (ST F C s) (suc n) x x

-- each state in NEXT(s) is related by C to one in NEXT(t)
abbrev pub Matched : Frame → (ℕ → ℕ → Type 0) → ℕ → ℕ → Type 0
Matched F C s t = (u : ℕ) → NEXT F C s u → (v : ℕ) × NEXT F C t v × C u v

-- one round: what C relates stays related if both or neither have a LOOP, and each NEXT matches the other
abbrev pub Refined : Frame → (ℕ → ℕ → Type 0) → ℕ → ℕ → Type 0
Refined F C s t = C s t × (LOOP F C s ↔ LOOP F C t) × Matched F C s t × Matched F C t s

-- s and t are related by C_r
abbrev pub Related : Kripke → ℕ → ℕ → ℕ → Type 0
Related M zero s t = Alike M s t
Related M (suc r) s t = Refined M.frame (Related M r) s t

-- one more round parts nothing
abbrev pub Stable : Kripke → ℕ → Type 0
Stable M r = (s t : ℕ) → Related M r s t → Related M (suc r) s t

-- round r settles: C_r equals C_(r-1) for the first time
abbrev pub Settles : Kripke → ℕ → Type 0
Settles M r = (q : ℕ) × (r ≡ suc q) × Stable M q × ((p : ℕ) → p < q → Stable M p → ⊥)
