-- Steps denote one formula at most, and those that are readable are just those that denote one.
use Rattle.std.proofs.Common.{◌≡◌, ℕ, zero, suc, ◌+◌, ◌-◌, ◌<◌, ◌≤◌, List, [], ◌∷◌, ◌++◌, length, get_or, take, sym, refl, ap, ◌∙◌, subst, add-one, arith}
use Rattle.std.specs.List.{AllByRecursion}
use Rattle.std.proofs.lemmas.List.{append_assoc, append-nil}
use Rattle.kripke.specs.Formulas.{Formula, top, word, neg, or, until, globally}
use Rattle.checker.specs.declared.steps.Step.{Step}
use Rattle.checker.specs.declared.steps.Step.TheVariants.{True, Word, Not, Or, Until, Globally}
use Rattle.checker.specs.Steps.{postfix, Denotes, Utters}
use Rattle.checker.specs.Reading.{Known, FineBelow, Readable, takes, left_by, step_at}
use Rattle.checker.specs.Claims.{OneFormula, ReadableFormulas}
use Rattle.checker.proofs.Spelling.{after, Reads, reads_none, reads_more, denotes_one}

run : List Formula → List Step → List Formula
run fs [] = fs
run fs (x ∷ xs) = run (after x fs) xs

-- the steps ys push f
abbrev Pushes : List Step → Formula → Type 0
Pushes ys f = (fs : List Formula) (xs : List Step) → run fs (ys ++ xs) ≡ run (f ∷ fs) xs

pushes_one : (ys : List Step) (x : Step) (f h : Formula) → Pushes ys f → ((fs : List Formula) → after x (f ∷ fs) ≡ h ∷ fs) → Pushes (ys ++ (x ∷ [])) h
unfolding run
pushes_one ys x f h p q fs xs = ap (run fs) (append_assoc ys (x ∷ []) xs) ∙ p fs (x ∷ xs) ∙ ap (λ gs. run gs xs) (q fs)

pushes_two : (ys zs : List Step) (x : Step) (f g h : Formula) → Pushes ys f → Pushes zs g → ((fs : List Formula) → after x (g ∷ f ∷ fs) ≡ h ∷ fs) →
    Pushes (ys ++ (zs ++ (x ∷ []))) h
unfolding run
pushes_two ys zs x f g h p r q fs xs =
    ap (run fs) (append_assoc ys (zs ++ (x ∷ [])) xs) ∙ p fs ((zs ++ (x ∷ [])) ++ xs) ∙
    ap (run (f ∷ fs)) (append_assoc zs (x ∷ []) xs) ∙ r (f ∷ fs) (x ∷ xs) ∙ ap (λ gs. run gs xs) (q fs)

pushes : (f : Formula) → Pushes (postfix f) f
unfolding run
pushes top = λ fs xs. refl
pushes (word a) = λ fs xs. refl
pushes (neg f) = pushes_one (postfix f) Not f (neg f) (pushes f) (λ fs. refl)
pushes (or f g) = pushes_two (postfix f) (postfix g) Or f g (or f g) (pushes f) (pushes g) (λ fs. refl)
pushes (until f g) = pushes_two (postfix f) (postfix g) Until f g (until f g) (pushes f) (pushes g) (λ fs. refl)
pushes (globally f) = pushes_one (postfix f) Globally f (globally f) (pushes f) (λ fs. refl)

run_whole : (f : Formula) → run [] (postfix f) ≡ f ∷ []
unfolding run
run_whole f = ap (run []) (sym (append-nil (postfix f))) ∙ pushes f [] []

pub one_formula : OneFormula
one_formula steps f g df dg =
    let p = run_whole f in
    let q = run_whole g in
    let r = ap (run []) (sym df ∙ dg) in
    cc

module _ (count : ℕ) where
  -- each step has its word and its operands, where h stand before the first, and k are left
  abbrev Runs : ℕ → List Step → ℕ → Type 0
  Runs h [] k = h ≡ k
  Runs h (x ∷ xs) k = Known count x × (takes x ≤ h) × Runs (h - takes x + 1) xs k

  runs-fine : (h : ℕ) (xs : List Step) (k i : ℕ) → i < length xs → Runs h xs k → Known count (get_or xs i True) × (takes (get_or xs i True) ≤ left_by h (take i xs))
  runs-fine h [] k i l p = absurd (omega arith)
  runs-fine h (x ∷ xs) k zero l p = (p.0, p.1)
  runs-fine h (x ∷ xs) k (suc i) l p = runs-fine (h - takes x + 1) xs k i (omega arith) p.2

  runs-left : (h : ℕ) (xs : List Step) (k : ℕ) → Runs h xs k → left_by h xs ≡ k
  runs-left h [] k p = p
  runs-left h (x ∷ xs) k p = runs-left (h - takes x + 1) xs k p.2

  -- the steps ys leave one operand more
  abbrev Adds : List Step → Type 0
  Adds ys = (h : ℕ) (xs : List Step) (k : ℕ) → Runs (h + 1) xs k → Runs h (ys ++ xs) k

  runs-step : (x : Step) (h j : ℕ) (xs : List Step) (k : ℕ) → Known count x → takes x + j ≡ h → Runs (j + 1) xs k → Runs h (x ∷ xs) k
  runs-step x h j xs k known e p = let same : j + 1 ≡ h - takes x + 1 = omega arith in (known, omega arith, subst (λ (n : ℕ). Runs n xs k) same p)

  adds_none : (x : Step) → Known count x → takes x ≡ 0 → Adds (x ∷ [])
  adds_none x known w h xs k p = runs-step x h h xs k known (omega arith) p

  adds_one : (ys : List Step) (x : Step) → Adds ys → Known count x → takes x ≡ 1 → Adds (ys ++ (x ∷ []))
  adds_one ys x a known w h xs k p =
      subst (λ (zs : List Step). Runs h zs k) (sym (append_assoc ys (x ∷ []) xs)) (a h (x ∷ xs) k (runs-step x (h + 1) h xs k known (omega arith) p))

  adds-two : (ys zs : List Step) (x : Step) → Adds ys → Adds zs → Known count x → takes x ≡ 2 → Adds (ys ++ (zs ++ (x ∷ [])))
  adds-two ys zs x a b known w h xs k p =
      subst (λ (us : List Step). Runs h us k) (sym (append_assoc ys (zs ++ (x ∷ [])) xs))
      (a h ((zs ++ (x ∷ [])) ++ xs) k
      (subst (λ (us : List Step). Runs (h + 1) us k) (sym (append_assoc zs (x ∷ []) xs))
      (b (h + 1) (x ∷ xs) k (runs-step x (h + 1 + 1) h xs k known (omega arith) p))))

  adds : (f : Formula) → Utters count f → Adds (postfix f)
  adds top u = adds_none True tt refl
  adds (word a) u = adds_none (Word a) u refl
  adds (neg f) u = adds_one (postfix f) Not (adds f u) tt refl
  adds (or f g) u = adds-two (postfix f) (postfix g) Or (adds f u.0) (adds g u.1) tt refl
  adds (until f g) u = adds-two (postfix f) (postfix g) Until (adds f u.0) (adds g u.1) tt refl
  adds (globally f) u = adds_one (postfix f) Globally (adds f u) tt refl

  denoting-reads : (steps : List Step) (f : Formula) → Denotes steps f → Utters count f → FineBelow count steps (length steps) × (left_by 0 steps ≡ 1)
  denoting-reads steps f e u =
      let runs : Runs 0 steps 1 = subst (λ (ys : List Step). Runs 0 ys 1) (append-nil (postfix f) ∙ sym e) (adds f u 0 [] 1 refl) in
      (λ i l. runs-fine 0 steps 1 i l runs, runs-left 0 steps 1 runs)

  utters-after : (x : Step) (fs : List Formula) → Known count x → AllByRecursion (Utters count) fs → AllByRecursion (Utters count) (after x fs)
  utters-after True fs known u = (tt, u)
  utters-after (Word a) fs known u = (known, u)
  utters-after Not [] known u = tt
  utters-after Not (f ∷ fs) known u = u
  utters-after Or [] known u = tt
  utters-after Or (g ∷ []) known u = tt
  utters-after Or (g ∷ f ∷ fs) known u = ((u.1.0, u.0), u.1.1)
  utters-after Until [] known u = tt
  utters-after Until (g ∷ []) known u = tt
  utters-after Until (g ∷ f ∷ fs) known u = ((u.1.0, u.0), u.1.1)
  utters-after Globally [] known u = tt
  utters-after Globally (f ∷ fs) known u = u

  -- the first i steps are those of formulas with words below the count
  abbrev Built : List Step → ℕ → Type 0
  Built steps i = (fs : List Formula) × Reads steps i fs × AllByRecursion (Utters count) fs

  built : (steps : List Step) (i : ℕ) → i ≤ length steps → FineBelow count steps (length steps) → Built steps i
  built steps zero l fine = ([], reads_none steps, tt)
  built steps (suc i) l fine =
      let b = built steps i (omega arith) fine in
      let x = fine i (omega arith) in
      subst (λ (n : ℕ). Built steps n) (add-one i) (after (step_at steps i) b.0, reads_more steps i b.0 (omega arith) (omega (arith, b.1.count, x.1)) b.1, utters-after (step_at steps i) b.0 x.0 b.2)

  reading-denotes : (steps : List Step) → Readable count steps → (f : Formula) × Denotes steps f × Utters count f
  reading-denotes steps r =
      let b = built steps (length steps) (omega arith) r.1 in
      let one = denotes_one steps (length steps) b.0 (omega arith) r.2 b.1 in
      let u = subst (λ (fs : List Formula). AllByRecursion (Utters count) fs) one.1 b.2 in
      (one.0, one.2, u.0)

pub readable_formulas : ReadableFormulas
readable_formulas count steps counted = (
  reading-denotes count steps,
  λ p. let w = denoting-reads count steps p.0 p.1 p.2 in (counted, w.0, w.1),
)
