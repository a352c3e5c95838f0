-- A file has one outcome: the numbers before a spot determine it, and a spot where reading halts is the only one.
use Rattle.std.proofs.Common.{◌≡◌, ℕ, ◌+◌, ◌-◌, ◌^◌, ◌<◌, ◌≤◌, cond, ltb, ◌⊎◌, List, [], ◌∷◌, ◌++◌, length, drop, sym, refl, ap, ◌∙◌, subst, inl, inr, ⊎_elim, arith, le-ltb, lt-ltb}
use Rattle.std.specs.List.{flat_map, AllByRecursion}
use Rattle.std.proofs.lemmas.List.{append_assoc, append-nil, drop_at, length-append, length_push, take-append-drop, take_all}
use Rattle.std.proofs.lemmas.Bool.{cases_lt, cond-true, cond-false}
use Rattle.models.specs.declared.facts.Facts.{Facts}
use Rattle.codec.specs.Numbers.{code, codes, counted}
use Rattle.codec.specs.Reading.{Stands}
use Rattle.codec.proofs.Joins.{joined-append}
use Rattle.codec.proofs.Standing.{same_front, stands, one_stands, one_wrong, not_wrong}
use Rattle.modelfile.specs.Files.{bits_of, numbers, RisingRow, Wide, targets_of}
use Rattle.modelfile.specs.FirstFault.{Spot, at_size, at_label, at_degree, at_target, before, Right, RightLabels, RightRows, RightTargets, Comes, Over, InRange, Rises, HasRoom, Number, Fails, Reached, FaultAtSpot, Denotes, OneOutcome}
use Rattle.modelfile.specs.declared.faults.FileFault.{FileFault}
use Rattle.modelfile.specs.declared.faults.FileFault.TheVariants.{InNumber, OutOfRange, NotRising, TableShort, LeftOver, TooLong}
use Rattle.modelfile.specs.declared.scan.Room.{Room}
use Rattle.modelfile.proofs.Rise.{rising_front, few_rise}
use Rattle.modelfile.proofs.Walking.{place_is, targets_push}

-- a spot behind the last label, or behind the last target of a row, is the one where a degree comes next
abbrev settled : Spot → Spot
settled at_size = at_size
settled (at_label n labels) = cond (ltb (length labels) n) (at_label n labels) (at_degree labels [])
settled (at_degree labels rows) = at_degree labels rows
settled (at_target labels rows degree ts) = cond (ltb (length ts) degree) (at_target labels rows degree ts) (at_degree labels (rows ++ (ts ∷ [])))

-- one number on
abbrev raw : Spot → ℕ → Spot
raw at_size n = at_label n []
raw (at_label n labels) x = at_label n (labels ++ (record { bits = x } ∷ []))
raw (at_degree labels rows) d = at_target labels rows d []
raw (at_target labels rows d ts) x = at_target labels rows d (ts ++ (x ∷ []))

abbrev walk : Spot → List ℕ → Spot
walk s [] = s
walk s (n ∷ ns) = walk (settled (raw s n)) ns

-- a spot that is settled
abbrev Open : Spot → Type 0
Open at_size = Unit {0}
Open (at_label n labels) = length labels < n
Open (at_degree labels rows) = Unit {0}
Open (at_target labels rows degree ts) = length ts < degree

settled_open : (s : Spot) → Open s → settled s ≡ s
settled_open at_size o = refl
settled_open (at_label n labels) o = cond-true (ltb (length labels) n) _ _ (lt-ltb (length labels) n o)
settled_open (at_degree labels rows) o = refl
settled_open (at_target labels rows d ts) o = cond-true (ltb (length ts) d) _ _ (lt-ltb (length ts) d o)

label_full : (n : ℕ) (labels : List Facts) → n ≤ length labels → settled (at_label n labels) ≡ at_degree labels []
label_full n labels h = cond-false (ltb (length labels) n) _ _ (le-ltb (length labels) n h)

row_full : (labels : List Facts) (rows : List (List ℕ)) (d : ℕ) (ts : List ℕ) → d ≤ length ts → settled (at_target labels rows d ts) ≡ at_degree labels (rows ++ (ts ∷ []))
row_full labels rows d ts h = cond-false (ltb (length ts) d) _ _ (le-ltb (length ts) d h)

-- a settled spot, by cases: it is the same spot and open, or the one behind it
label_cases : (n : ℕ) (labels : List Facts) → ((length labels < n) × (settled (at_label n labels) ≡ at_label n labels)) ⊎ ((n ≤ length labels) × (settled (at_label n labels) ≡ at_degree labels []))
label_cases n labels = ⊎_elim (λ l. inl (l, settled_open (at_label n labels) l)) (λ l. inr (l, label_full n labels l)) (cases_lt (length labels) n)

target_cases : (labels : List Facts) (rows : List (List ℕ)) (d : ℕ) (ts : List ℕ) → ((length ts < d) × (settled (at_target labels rows d ts) ≡ at_target labels rows d ts)) ⊎ ((d ≤ length ts) × (settled (at_target labels rows d ts) ≡ at_degree labels (rows ++ (ts ∷ []))))
target_cases labels rows d ts = ⊎_elim (λ l. inl (l, settled_open (at_target labels rows d ts) l)) (λ l. inr (l, row_full labels rows d ts l)) (cases_lt (length ts) d)

open_settled : (s : Spot) → Open (settled s)
open_settled at_size = tt
open_settled (at_label n labels) = ⊎_elim (λ h. subst Open (sym h.1) h.0) (λ h. subst Open (sym h.1) tt) (label_cases n labels)
open_settled (at_degree labels rows) = tt
open_settled (at_target labels rows d ts) = ⊎_elim (λ h. subst Open (sym h.1) h.0) (λ h. subst Open (sym h.1) tt) (target_cases labels rows d ts)

walk_append : (s : Spot) (ms ns : List ℕ) → walk s (ms ++ ns) ≡ walk (walk s ms) ns
walk_append s [] ns = refl
walk_append s (m ∷ ms) ns = walk_append (settled (raw s m)) ms ns

walk_labels : (n : ℕ) (labels more : List Facts) → length labels + length more ≤ n → walk (settled (at_label n labels)) (bits_of more) ≡ settled (at_label n (labels ++ more))
walk_labels n labels [] h = ap (λ ls. settled (at_label n ls)) (sym (append-nil labels))
walk_labels n labels (x ∷ more) h =
    let long = length_push labels x in
    ap (λ s. walk s (bits_of (x ∷ more))) (settled_open (at_label n labels) (omega arith))
    ∙ (walk_labels n (labels ++ (x ∷ [])) more (omega arith)
    ∙ ap (λ ls. settled (at_label n ls)) (append_assoc labels (x ∷ []) more))

walk_targets : (labels : List Facts) (rows : List (List ℕ)) (d : ℕ) (ts more : List ℕ) → length ts + length more ≤ d → walk (settled (at_target labels rows d ts)) more ≡ settled (at_target labels rows d (ts ++ more))
walk_targets labels rows d ts [] h = ap (λ us. settled (at_target labels rows d us)) (sym (append-nil ts))
walk_targets labels rows d ts (x ∷ more) h =
    let long = length_push ts x in
    ap (λ s. walk s (x ∷ more)) (settled_open (at_target labels rows d ts) (omega arith))
    ∙ (walk_targets labels rows d (ts ++ (x ∷ [])) more (omega arith)
    ∙ ap (λ us. settled (at_target labels rows d us)) (append_assoc ts (x ∷ []) more))

walk_rows : (labels : List Facts) (rows more : List (List ℕ)) → walk (at_degree labels rows) (flat_map counted more) ≡ at_degree labels (rows ++ more)
walk_rows labels rows [] = ap (at_degree labels) (sym (append-nil rows))
walk_rows labels rows (row ∷ more) =
    walk_append (at_degree labels rows) (counted row) (flat_map counted more)
    ∙ (ap (λ s. walk s (flat_map counted more)) (walk_targets labels rows (length row) [] row (omega arith) ∙ row_full labels rows (length row) row (omega arith))
    ∙ (walk_rows labels (rows ++ (row ∷ [])) more
    ∙ ap (at_degree labels) (append_assoc rows (row ∷ []) more)))

walk_numbers : (labels : List Facts) (rows : List (List ℕ)) → walk at_size (numbers labels rows) ≡ at_degree labels rows
walk_numbers labels rows =
    walk_append at_size (length labels ∷ bits_of labels) (flat_map counted rows)
    ∙ (ap (λ s. walk s (flat_map counted rows)) (walk_labels (length labels) [] labels (omega arith) ∙ label_full (length labels) labels (omega arith))
    ∙ walk_rows labels [] rows)

-- the numbers before a spot lead to it
arrives : (t : Room) (s : Spot) → Right t s → walk at_size (before s) ≡ settled s
arrives t at_size right = refl
arrives t (at_label n labels) right = walk_labels n [] labels (omega (arith, right.few))
arrives t (at_degree labels rows) right = walk_numbers labels rows
arrives t (at_target labels rows d ts) right =
    walk_append at_size (numbers labels rows) (d ∷ ts)
    ∙ (ap (λ s. walk s (d ∷ ts)) (walk_numbers labels rows) ∙ walk_targets labels rows d [] ts (omega (arith, right.few)))

-- a number is right at a spot
record Passes (t : Room) (s : Spot) (n : ℕ) : Type 0 where
  small : n < 2 ^ 64
  comes : Comes s
  ranged : InRange s n
  rises : Rises s n
  room : HasRoom t s n

all_front : {X : Type 0} (P : X → Type 0) (xs : List X) (x : X) → AllByRecursion P (xs ++ (x ∷ [])) → AllByRecursion P xs × P x
all_front P [] x h = (tt, h.0)
all_front P (y ∷ xs) x h = let r = all_front P xs x h.1 in ((h.0, r.0), r.1)

-- what is right behind one more label was right before it
label_back : (t : Room) (n : ℕ) (labels : List Facts) (x : ℕ) → length labels < n → RightLabels t n (labels ++ (record { bits = x } ∷ [])) → RightLabels t n labels × Passes t (at_label n labels) x
label_back t n labels x o right =
    let wide = all_front Wide labels (record { bits = x }) right.wide in (
      record { sized = right.sized; held = right.held; few = omega arith; wide = wide.0 },
      record { small = wide.1; comes = o; ranged = tt; rises = tt; room = tt },
    )

-- and one more target
target_back : (t : Room) (labels : List Facts) (rows : List (List ℕ)) (d : ℕ) (ts : List ℕ) (x : ℕ) → length ts < d → RightTargets t labels rows d (ts ++ (x ∷ [])) → RightTargets t labels rows d ts × Passes t (at_target labels rows d ts) x
target_back t labels rows d ts x o right =
    let below = all_front (λ u. u < length labels) ts x right.rising.below in
    let held = right.held in
    let long = length_push ts x in
    let few = right.complete.labelled.sized.1 in (
      record {
        complete = right.complete;
        next = right.next;
        ranged = right.ranged;
        few = omega arith;
        rising = record { rises = rising_front ts x right.rising.rises; below = below.0 };
        held = omega arith;
      },
      record { small = omega (arith, below.1); comes = o; ranged = below.1; rises = right.rising.rises; room = omega arith },
    )

-- a whole row is right: so were its targets
row_back : (t : Room) (labels : List Facts) (rows : List (List ℕ)) (ts : List ℕ) (d : ℕ) → d ≡ length ts → d ≤ length labels → RightRows t labels (rows ++ (ts ∷ [])) → RightTargets t labels rows d ts
row_back t labels rows ts d e ranged right =
    let each = all_front (RisingRow (length labels)) rows ts right.rising in
    let held = right.held in
    let few = right.few in
    let long = length_push rows ts in
    let flat : length (targets_of (rows ++ (ts ∷ []))) ≡ length (targets_of rows) + length ts = ap length (sym (targets_push rows ts)) ∙ length-append (targets_of rows) ts in
    record {
      complete = record { labelled = right.labelled; few = omega arith; rising = each.0; held = omega arith };
      next = omega arith;
      ranged = ranged;
      few = omega arith;
      rising = each.1;
      held = omega arith;
    }

degree_back : (t : Room) (labels : List Facts) (rows : List (List ℕ)) (d : ℕ) → RightTargets t labels rows d [] → RightRows t labels rows × Passes t (at_degree labels rows) d
degree_back t labels rows d right =
    let ranged = right.ranged in
    let few = right.complete.labelled.sized.1 in
    (right.complete, record { small = omega arith; comes = right.next; ranged = right.ranged; rises = tt; room = tt })

-- what is right one number on was right before, and the number passed
back : (t : Room) (s : Spot) (n : ℕ) → Open s → Right t (settled (raw s n)) → Right t s × Passes t s n
back t at_size n o right =
    ⊎_elim
    (λ h.
    let r : RightLabels t n [] = subst (Right t) h.1 right in
    let few = r.sized.1 in
    (tt, record { small = omega arith; comes = tt; ranged = r.sized; rises = tt; room = r.held }))
    (λ h. let r : RightRows t [] [] = subst (Right t) h.1 right in absurd (omega (arith, r.labelled.sized.0)))
    (label_cases n [])
back t (at_label n labels) x o right =
    let long = length_push labels (record { bits = x }) in
    ⊎_elim
    (λ h. label_back t n labels x o (subst (Right t) h.1 right))
    (λ h.
    let r : RightRows t (labels ++ (record { bits = x } ∷ [])) [] = subst (Right t) h.1 right in
    let e : length (labels ++ (record { bits = x } ∷ [])) ≡ n = omega (arith, h.0) in
    label_back t n labels x o (subst (λ m. RightLabels t m (labels ++ (record { bits = x } ∷ []))) e r.labelled))
    (label_cases n (labels ++ (record { bits = x } ∷ [])))
back t (at_degree labels rows) d o right =
    ⊎_elim
    (λ h. degree_back t labels rows d (subst (Right t) h.1 right))
    (λ h. degree_back t labels rows d (row_back t labels rows [] d (omega (arith, h.0)) (omega (arith, h.0)) (subst (Right t) h.1 right)))
    (target_cases labels rows d [])
back t (at_target labels rows d ts) x o right =
    let long = length_push ts x in
    ⊎_elim
    (λ h. target_back t labels rows d ts x o (subst (Right t) h.1 right))
    (λ h.
    let r : RightRows t labels (rows ++ ((ts ++ (x ∷ [])) ∷ [])) = subst (Right t) h.1 right in
    let few = few_rise (length labels) (ts ++ (x ∷ [])) (all_front (RisingRow (length labels)) rows (ts ++ (x ∷ [])) r.rising).1 in
    target_back t labels rows d ts x o (row_back t labels rows (ts ++ (x ∷ [])) d (omega (arith, h.0)) (omega (arith, h.0)) r))
    (target_cases labels rows d (ts ++ (x ∷ [])))

-- what is right some numbers on was right before
back_all : (t : Room) (s : Spot) (ns : List ℕ) → Open s → Right t (walk s ns) → Right t s
back_all t s [] o right = right
back_all t s (n ∷ ns) o right = (back t s n o (back_all t (settled (raw s n)) ns (open_settled (raw s n)) right)).0

passed : (t : Room) (s : Spot) (n : ℕ) (ns : List ℕ) → Open s → Right t (walk s (n ∷ ns)) → Passes t s n
passed t s n ns o right = (back t s n o (back_all t (settled (raw s n)) ns (open_settled (raw s n)) right)).1

-- of two lists of numbers whose bytes begin the same file, one begins with the other
one_begins : (ms ns : List ℕ) (r q : List ℕ) → codes ms ++ r ≡ codes ns ++ q → ((more : List ℕ) × (ns ≡ ms ++ more)) ⊎ ((more : List ℕ) × (ms ≡ ns ++ more))
one_begins [] ns r q e = inl (ns, refl)
one_begins (m ∷ ms) [] r q e = inr (m ∷ ms, refl)
one_begins (m ∷ ms) (n ∷ ns) r q e =
    let same = same_front m n (codes ms ++ r) (codes ns ++ q) (sym (append_assoc (code m) (codes ms) r) ∙ (e ∙ append_assoc (code n) (codes ns) q)) in
    let first : m ≡ n = same.0 in
    ⊎_elim
    (λ h. inl (h.0, ap (λ x. x ∷ ns) (sym first) ∙ ap (λ xs. m ∷ xs) h.1))
    (λ h. inr (h.0, ap (λ x. x ∷ ms) first ∙ ap (λ xs. n ∷ xs) h.1))
    (one_begins ms ns r q same.1)

-- reading stops at a spot: it is settled, and no number that passes stands there
record Halts (t : Room) (file : List ℕ) (s : Spot) (at : ℕ) : Type 0 where
  is_open : Open s
  none : (n next : ℕ) → Stands file at n next → Passes t s n → ⊥

module _ (t : Room) (file : List ℕ) where
  split : (s : Spot) (at : ℕ) → Reached t file s at → file ≡ codes (before s) ++ drop at file
  split s at reached = sym (take-append-drop at file) ∙ ap (λ bs. bs ++ drop at file) reached.text

  -- a number behind a spot stands there
  next-stands : (s q : Spot) (at place n : ℕ) (more : List ℕ) → Reached t file s at → Reached t file q place → before q ≡ before s ++ (n ∷ more) → n < 2 ^ 64 → (next : ℕ) × Stands file at n next
  next-stands s q at place n more reached other e small =
      let rest = codes more ++ drop place file in
      let text : file ≡ codes (before s) ++ (code n ++ rest) =
      split q place other
      ∙ (ap (λ ns. codes ns ++ drop place file) e
      ∙ (ap (λ bs. bs ++ drop place file) (joined-append code (before s) (n ∷ more))
      ∙ (append_assoc (codes (before s)) (codes (n ∷ more)) (drop place file)
      ∙ ap (λ bs. codes (before s) ++ bs) (append_assoc (code n) (codes more) (drop place file))))) in
      let begins : drop at file ≡ code n ++ rest = ap (drop at) text ∙ drop_at (codes (before s)) (code n ++ rest) at (sym (place_is t file s at reached)) in
      (length file - length rest, stands file rest at n small begins)

  -- reading does not stop at a spot before another that it reaches
  not-before : (s q : Spot) (at place n : ℕ) (more : List ℕ) → Reached t file s at → Halts t file s at → Reached t file q place → Open q → before q ≡ before s ++ (n ∷ more) → ⊥
  not-before s q at place n more reached halts other o e =
      let there : walk s (n ∷ more) ≡ q =
      ap (λ u. walk u (n ∷ more)) (sym (arrives t s reached.right ∙ settled_open s halts.is_open))
      ∙ (sym (walk_append at_size (before s) (n ∷ more))
      ∙ (ap (walk at_size) (sym e)
      ∙ (arrives t q other.right ∙ settled_open q o))) in
      let pass = passed t s n more halts.is_open (subst (Right t) (sym there) other.right) in
      let found = next-stands s q at place n more reached other e pass.small in
      halts.none n found.0 found.1 pass

  same_spot : (s q : Spot) (at place : ℕ) → Reached t file s at → Halts t file s at → Reached t file q place → Halts t file q place → before q ≡ before s → (s ≡ q) × (at ≡ place)
  same_spot s q at place reached halts other stops e = (
    sym (arrives t s reached.right ∙ settled_open s halts.is_open) ∙ (ap (walk at_size) (sym e) ∙ (arrives t q other.right ∙ settled_open q stops.is_open)),
    place_is t file s at reached ∙ (ap (λ ns. length (codes ns)) (sym e) ∙ sym (place_is t file q place other)),
  )

  by-rest : (s q : Spot) (at place : ℕ) (more : List ℕ) → Reached t file s at → Halts t file s at → Reached t file q place → Halts t file q place → before q ≡ before s ++ more → (s ≡ q) × (at ≡ place)
  by-rest s q at place [] reached halts other stops e = same_spot s q at place reached halts other stops (e ∙ append-nil (before s))
  by-rest s q at place (n ∷ more) reached halts other stops e = absurd (not-before s q at place n more reached halts other stops.is_open e)

  -- there is one spot where reading stops
  one_spot : (s q : Spot) (at place : ℕ) → Reached t file s at → Halts t file s at → Reached t file q place → Halts t file q place → (s ≡ q) × (at ≡ place)
  one_spot s q at place reached halts other stops =
      ⊎_elim
      (λ h. by-rest s q at place h.0 reached halts other stops h.1)
      (λ h. let r = by-rest q s place at h.0 other stops reached halts h.1 in (sym r.0, sym r.1))
      (one_begins (before s) (before q) (drop at file) (drop place file) (sym (split s at reached) ∙ split q place other))

  -- the number that stands at a place, of which two things hold
  both : (P Q : ℕ → Type 0) (at : ℕ) → Number file at P → Number file at Q → (n : ℕ) × P n × Q n
  both P Q at a b =
      let same : a.0 ≡ b.0 = (one_stands file at a.0 b.0 a.1 b.1 a.2 b.2).0 in
      (b.0, subst P same a.3, b.3)

  comes-open : (s : Spot) → Comes s → Open s
  comes-open at_size h = tt
  comes-open (at_label n labels) h = h
  comes-open (at_degree labels rows) h = tt
  comes-open (at_target labels rows d ts) h = h

  over-open : (s : Spot) → Over s → Open s
  over-open at_size h = absurd h
  over-open (at_label n labels) h = absurd h
  over-open (at_degree labels rows) h = tt
  over-open (at_target labels rows d ts) h = absurd h

  not-over : (s : Spot) → Comes s → Over s → ⊥
  not-over at_size h o = o
  not-over (at_label n labels) h o = o
  not-over (at_degree labels rows) h o = omega arith
  not-over (at_target labels rows d ts) h o = o

  -- where nothing is to come, reading stops
  over-halts : (s : Spot) (at : ℕ) → Over s → Halts t file s at
  over-halts s at over = record { is_open = over-open s over; none = λ n next there pass. not-over s pass.comes over }

  stuck : (s : Spot) (at : ℕ) (P : ℕ → Type 0) → Comes s → Number file at P → ((n : ℕ) → Passes t s n → P n → ⊥) → Halts t file s at
  stuck s at P comes wrong clash = record {
    is_open = comes-open s comes;
    none = λ n next there pass. clash n pass (subst P (one_stands file at _ n _ next wrong.2 there).0 wrong.3);
  }

  -- where a fault is, reading stops
  fails-halts : (s : Spot) (at : ℕ) (fault : FileFault) → Fails t file s at fault → Halts t file s at
  fails-halts s at (InNumber e) h = record { is_open = comes-open s h.0; none = λ n next there pass. not_wrong file at n next e there h.1 }
  fails-halts s at (OutOfRange p) h = stuck s at _ h.0 h.2 (λ n pass bad. bad pass.ranged)
  fails-halts s at (NotRising p) h = stuck s at _ h.0 h.2 (λ n pass bad. bad.1 pass.rises)
  fails-halts s at (TableShort p) h = stuck s at _ h.0 h.2 (λ n pass bad. bad.2 pass.room)
  fails-halts s at (LeftOver p) h = over-halts s at h.0
  fails-halts s at TooLong h = absurd h

  -- one fault at most is the first at a spot
  one-fails : (s : Spot) (at : ℕ) (d e : FileFault) → Fails t file s at d → Fails t file s at e → d ≡ e
  one-fails s at (InNumber d) (InNumber e) a b = ap InNumber (one_wrong file at d e a.1 b.1)
  one-fails s at (InNumber d) (OutOfRange p) a b = absurd (not_wrong file at _ _ d b.2.2 a.1)
  one-fails s at (InNumber d) (NotRising p) a b = absurd (not_wrong file at _ _ d b.2.2 a.1)
  one-fails s at (InNumber d) (TableShort p) a b = absurd (not_wrong file at _ _ d b.2.2 a.1)
  one-fails s at (InNumber d) (LeftOver p) a b = absurd (not-over s a.0 b.0)
  one-fails s at (OutOfRange p) (InNumber e) a b = absurd (not_wrong file at _ _ e a.2.2 b.1)
  one-fails s at (OutOfRange p) (OutOfRange q) a b = ap OutOfRange (a.1 ∙ sym b.1)
  one-fails s at (OutOfRange p) (NotRising q) a b = let h = both _ _ at a.2 b.2 in absurd (h.1 h.2.0)
  one-fails s at (OutOfRange p) (TableShort q) a b = let h = both _ _ at a.2 b.2 in absurd (h.1 h.2.0)
  one-fails s at (OutOfRange p) (LeftOver q) a b = absurd (not-over s a.0 b.0)
  one-fails s at (NotRising p) (InNumber e) a b = absurd (not_wrong file at _ _ e a.2.2 b.1)
  one-fails s at (NotRising p) (OutOfRange q) a b = let h = both _ _ at a.2 b.2 in absurd (h.2 h.1.0)
  one-fails s at (NotRising p) (NotRising q) a b = ap NotRising (a.1 ∙ sym b.1)
  one-fails s at (NotRising p) (TableShort q) a b = let h = both _ _ at a.2 b.2 in absurd (h.1.1 h.2.1)
  one-fails s at (NotRising p) (LeftOver q) a b = absurd (not-over s a.0 b.0)
  one-fails s at (TableShort p) (InNumber e) a b = absurd (not_wrong file at _ _ e a.2.2 b.1)
  one-fails s at (TableShort p) (OutOfRange q) a b = let h = both _ _ at a.2 b.2 in absurd (h.2 h.1.0)
  one-fails s at (TableShort p) (NotRising q) a b = let h = both _ _ at a.2 b.2 in absurd (h.2.1 h.1.1)
  one-fails s at (TableShort p) (TableShort q) a b = ap TableShort (a.1 ∙ sym b.1)
  one-fails s at (TableShort p) (LeftOver q) a b = absurd (not-over s a.0 b.0)
  one-fails s at (LeftOver p) (InNumber e) a b = absurd (not-over s b.0 a.0)
  one-fails s at (LeftOver p) (OutOfRange q) a b = absurd (not-over s b.0 a.0)
  one-fails s at (LeftOver p) (NotRising q) a b = absurd (not-over s b.0 a.0)
  one-fails s at (LeftOver p) (TableShort q) a b = absurd (not-over s b.0 a.0)
  one-fails s at (LeftOver p) (LeftOver q) a b = ap LeftOver (a.1 ∙ sym b.1)
  one-fails s at TooLong e a b = absurd a
  one-fails s at (InNumber d) TooLong a b = absurd b
  one-fails s at (OutOfRange p) TooLong a b = absurd b
  one-fails s at (NotRising p) TooLong a b = absurd b
  one-fails s at (TableShort p) TooLong a b = absurd b
  one-fails s at (LeftOver p) TooLong a b = absurd b

  -- no fault is at the end of an accepted file
  none-fails : (s : Spot) (fault : FileFault) → Over s → Fails t file s (length file) fault → ⊥
  none-fails s (InNumber e) over h = not-over s h.0 over
  none-fails s (OutOfRange p) over h = not-over s h.0 over
  none-fails s (NotRising p) over h = not-over s h.0 over
  none-fails s (TableShort p) over h = not-over s h.0 over
  none-fails s (LeftOver p) over h = omega (arith, h.2)
  none-fails s TooLong over h = h

  -- an accepted file is read to its end
  ended : (labels : List Facts) (rows : List (List ℕ)) → Denotes t file labels rows → Reached t file (at_degree labels rows) (length file)
  ended labels rows denotes =
      let each = denotes.valid.each in
      record {
        inside = omega arith;
        right = record {
          labelled = record { sized = denotes.valid.sized; held = denotes.held.0; few = omega arith; wide = denotes.valid.wide };
          few = omega arith;
          rising = denotes.valid.rising;
          held = denotes.held.1;
        };
        text = take_all (length file) file (omega arith) ∙ denotes.text;
      }

  one-fault-at : (d e : FileFault) → FaultAtSpot t file d → FaultAtSpot t file e → d ≡ e
  one-fault-at d e a b =
      let same = one_spot a.spot b.spot a.at b.at a.reached (fails-halts a.spot a.at d a.fails) b.reached (fails-halts b.spot b.at e b.fails) in
      one-fails b.spot b.at d e (subst (λ s. Fails t file s b.at d) same.0 (subst (λ i. Fails t file a.spot i d) same.1 a.fails)) b.fails

  pub one_outcome : OneOutcome t file
  one_outcome = record {
    one_model = λ labels more rows others a b.
        let same = one_spot (at_degree labels rows) (at_degree more others) (length file) (length file) (ended labels rows a) (over-halts (at_degree labels rows) (length file) a.valid.each) (ended more others b) (over-halts (at_degree more others) (length file) b.valid.each) in
        let e = same.0 in
        ((cc), (cc));
    one_fault = λ d e a b. ⊎_elim
        (λ p. ⊎_elim (λ q. p.1 ∙ sym q.1) (λ q. let short = q.short in absurd (omega (arith, p.0))) b)
        (λ p. ⊎_elim (λ q. let short = p.short in absurd (omega (arith, q.0))) (λ q. one-fault-at d e p q) b)
        a;
    not_both = λ labels rows e a b. ⊎_elim
        (λ q. let short = a.short in omega (arith, q.0))
        (λ q.
        let same = one_spot q.spot (at_degree labels rows) q.at (length file) q.reached (fails-halts q.spot q.at e q.fails) (ended labels rows a) (over-halts (at_degree labels rows) (length file) a.valid.each) in
        none-fails (at_degree labels rows) e a.valid.each (subst (λ s. Fails t file s (length file) e) same.0 (subst (λ i. Fails t file q.spot i e) same.1 q.fails)))
        b;
  }
