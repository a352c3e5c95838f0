-- The relation, the components, their numbers and truth, computed: each round as tables of answers.
use Rattle.std.specs.Prelude.{ℕ, zero, suc, ◌+◌, Bool, true, false, not, ◌&&◌, ◌||◌, List, [], ◌∷◌, ◌++◌, length, ◌==◌, nat_lt, slice_index, slice_index_or}
use Rattle.std.specs.Bool.{beq}
use Rattle.kripke.specs.Models.{Frame, Kripke}
use Rattle.kripke.specs.Formulas.{Formula, top, word, neg, or, until, globally}
use Rattle.worked.specs.Tables.{any, every, seek, row, lines, grid, look}

abbrev pub Table : Type 0
Table = List (List Bool)

-- t is in the list
unfoldable pub among : List ℕ → ℕ → Bool
among [] t = false
among (x ∷ xs) t = x == t || among xs t

-- the moves of a frame
unfoldable pub moves : Frame → Table
moves F = grid F.size (λ s t. among (F.row s) t)

-- what steps join, if inner places below k are let in one by one (Warshall)
unfoldable pub widen : ℕ → ℕ → Table → Table
widen n k m = grid n (λ i j. look m i j || (look m i k && look m k j))

unfoldable pub close : ℕ → ℕ → Table → Table
close n zero m = m
close n (suc k) m = widen n k (close n k m)

-- for a relation given as a table m: the roads of at least one move inside a class; ST; LOOP; NEXT
unfoldable pub roads : ℕ → Table → Table → Table
roads n mv m = close n n (grid n (λ i j. look m i j && look mv i j))

unfoldable pub reached : ℕ → Table → Table
reached n R = grid n (λ i j. (i == j) || look R i j)

unfoldable pub looped : ℕ → Table → Table → List Bool
looped n R W = row n (λ i. any n (λ x. look W i x && look R x x))

unfoldable pub nexts : ℕ → Table → Table → Table
nexts n mv W = grid n (λ i j. not (look W i j) && any n (λ u. look W i u && look mv u j))

-- u is related to a state in NEXT(j); each state in NEXT(i) is related to one in NEXT(j)
unfoldable pub near : ℕ → Table → Table → Table
near n X m = grid n (λ j u. any n (λ v. look X j v && look m u v))

unfoldable pub matches : ℕ → Table → Table → Table
matches n X Y = grid n (λ i j. every n (λ u. not (look X i u) || look Y j u))

-- what stays related
unfoldable pub finer : ℕ → Table → List Bool → Table → Table
finer n m L Z = grid n (λ i j. look m i j && (beq (slice_index_or L i false) (slice_index_or L j false) && (look Z i j && look Z j i)))

unfoldable pub round : ℕ → Table → Table → Table
round n mv m =
    let R = roads n mv m in
    let W = reached n R in
    let X = nexts n mv W in
    finer n m (looped n R W) (matches n X (near n X m))

-- the words of each state, and who is alike
unfoldable pub spoken : Kripke → Table
spoken M = lines M.labels.count M.frame.size (λ s a. M.labels.words s a)

unfoldable pub alike : Kripke → Table
alike M =
    let w = spoken M in
    grid M.frame.size (λ s t. every M.labels.count (λ a. beq (look w s a) (look w t a)))

-- C_r
unfoldable pub relation : Kripke → ℕ → Table
relation M zero = alike M
relation M (suc r) = round M.frame.size (moves M.frame) (relation M r)

abbrev pub related? : Kripke → ℕ → ℕ → ℕ → Bool
related? M r s t = look (relation M r) s t

-- ST, NEXT and LOOP by C_r, for the round after it
unfoldable pub inside : Kripke → ℕ → Table
inside M r = reached M.frame.size (roads M.frame.size (moves M.frame) (relation M r))

unfoldable pub outside : Kripke → ℕ → Table
outside M r = nexts M.frame.size (moves M.frame) (inside M r)

unfoldable pub loops : Kripke → ℕ → List Bool
loops M r = looped M.frame.size (roads M.frame.size (moves M.frame) (relation M r)) (inside M r)

-- who reaches one another inside their class of alike states
unfoldable pub mutual? : Kripke → Table
mutual? M =
    let W = inside M 0 in
    grid M.frame.size (λ i j. look W i j && look W j i)

-- the members' numbers so far, and how many there are
pub record Ranks : Type 0 where
  pub numbers : List ℕ
  pub count : ℕ

-- one member more: it has the number of an earlier one, or opens the next
abbrev pub joins : Bool → ℕ → Ranks → Ranks
joins true j w = record { numbers = w.numbers ++ (slice_index w.numbers j ∷ []); count = w.count }
joins false j w = record { numbers = w.numbers ++ (w.count ∷ []); count = w.count + 1 }

-- the classes of a table by first member
unfoldable pub ranks : Table → ℕ → Ranks
ranks m zero = record { numbers = []; count = 0 }
ranks m (suc k) =
    let j = seek k (λ j. look m j k) in
    joins (nat_lt j k) j (ranks m k)

abbrev pub at : Ranks → ℕ → ℕ
at w s = slice_index w.numbers s

abbrev pub classes? : Kripke → ℕ → Ranks
classes? M r = ranks (relation M r) M.frame.size

abbrev pub components? : Kripke → Ranks
components? M = ranks (mutual? M) M.frame.size

-- the round that settles
unfoldable pub steady : ℕ → Table → Table → Bool
steady n m l = every n (λ i. every n (λ j. not (look m i j) || look l i j))

unfoldable pub settling? : Kripke → ℕ
settling? M = suc (seek M.frame.size (λ q. steady M.frame.size (relation M q) (relation M (suc q))))

-- for a formula: the roads through states with p; where one ends with q; where a path of k moves keeps to p
unfoldable pub ways : ℕ → Table → List Bool → Table
ways n mv p = close n n (grid n (λ i j. slice_index_or p i false && look mv i j))

unfoldable pub ends : ℕ → Table → List Bool → List Bool
ends n R q = row n (λ s. slice_index_or q s false || any n (λ t. look R s t && slice_index_or q t false))

unfoldable pub keeps : ℕ → Table → List Bool → ℕ → List Bool
keeps n mv p zero = p
keeps n mv p (suc k) =
    let l = keeps n mv p k in
    row n (λ s. slice_index_or p s false && any n (λ t. look mv s t && slice_index_or l t false))

-- where a formula holds
unfoldable pub truth : Kripke → Formula → List Bool
truth M top = row M.frame.size (λ s. true)
truth M (word a) = row M.frame.size (λ s. M.labels.words s a)
truth M (neg f) = let l = truth M f in row M.frame.size (λ s. not (slice_index_or l s false))
truth M (or f g) =
    let k = truth M f in
    let l = truth M g in
    row M.frame.size (λ s. slice_index_or k s false || slice_index_or l s false)
truth M (until f g) = ends M.frame.size (ways M.frame.size (moves M.frame) (truth M f)) (truth M g)
truth M (globally f) = keeps M.frame.size (moves M.frame) (truth M f) M.frame.size

abbrev pub holds? : Kripke → Formula → ℕ → Bool
holds? M f s = slice_index_or (truth M f) s false

-- every row has a move, and none goes nowhere
unfoldable pub below : ℕ → List ℕ → Bool
below n [] = true
below n (x ∷ xs) = nat_lt x n && below n xs

unfoldable pub total? : Frame → Bool
total? F = every F.size (λ s. nat_lt 0 (length (F.row s)) && below F.size (F.row s))

-- the targets of a row rise
unfoldable pub rising? : List ℕ → Bool
rising? [] = true
rising? (x ∷ []) = true
rising? (x ∷ y ∷ l) = nat_lt x y && rising? (y ∷ l)

-- a move from s to t
unfoldable pub move? : Frame → ℕ → ℕ → Bool
move? F s t = nat_lt s F.size && (nat_lt t F.size && among (F.row s) t)

-- R is the reduced model of M by C_r, whose m classes c numbers
unfoldable pub reduces? : Kripke → ℕ → (ℕ → ℕ) → ℕ → Kripke → Bool
reduces? M r c m R =
    let n = M.frame.size in
    let X = outside M r in
    let L = loops M r in
    (R.frame.size == m) && (R.labels.count == M.labels.count &&
    (every n (λ s. not (every s (λ t. not (c t == c s))) || every M.labels.count (λ a. beq (R.labels.words (c s) a) (M.labels.words s a))) &&
    (every m (λ i. every m (λ j. not (not (j == i)) || beq (move? R.frame i j) (any n (λ s. (c s == i) && any n (λ t. look X s t && c t == j))))) &&
    (every m (λ i. beq (move? R.frame i i) (any n (λ s. (c s == i) && slice_index_or L s false))) &&
    every m (λ i. rising? (R.frame.row i) && below m (R.frame.row i))))))
