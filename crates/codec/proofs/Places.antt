-- What is written over a list, and what is then written behind it.
use Rattle.std.proofs.Common.{◌≡◌, ℕ, suc, ◌+◌, ◌<◌, ◌≤◌, List, [], ◌∷◌, ◌++◌, length, take, drop, set, sym, refl, ap, ◌∙◌, add-zero, add_assoc, arith}
use Rattle.std.proofs.lemmas.List.{append_assoc, drop_at, drop-drop, length-append, length-drop, length-take-le, set_split, take-append-drop, take_at}
use Rattle.codec.specs.Pieces.{placed}

module _ {X : Type 0} where
  front : (xs ys : List X) (i : ℕ) → i ≤ length xs → length (take i xs ++ ys) ≡ i + length ys
  front xs ys i h = simp (length-append, length-take-le) refl

  -- up to its end, a list with a piece placed in it is what stood before, and the piece
  pub take-placed : (xs ys : List X) (i : ℕ) → i ≤ length xs → take (i + length ys) (placed xs i ys) ≡ take i xs ++ ys
  take-placed xs ys i h =
      ap (take (i + length ys)) (sym (append_assoc (take i xs) ys (drop (i + length ys) xs)))
      ∙ take_at (take i xs ++ ys) (drop (i + length ys) xs) (i + length ys) (front xs ys i h)

  -- and behind it, what stood there
  pub drop-placed : (xs ys : List X) (i k : ℕ) → i ≤ length xs → drop (i + length ys + k) (placed xs i ys) ≡ drop (i + length ys + k) xs
  drop-placed xs ys i k h =
      sym (drop-drop k (i + length ys) (placed xs i ys))
      ∙ (ap (λ zs. drop k (drop (i + length ys) zs)) (sym (append_assoc (take i xs) ys (drop (i + length ys) xs)))
      ∙ (ap (drop k) (drop_at (take i xs ++ ys) (drop (i + length ys) xs) (i + length ys) (front xs ys i h))
      ∙ drop-drop k (i + length ys) xs))

  -- a piece written behind a piece is one piece
  pub placed_on : (xs ys zs : List X) (i : ℕ) → i ≤ length xs → placed (placed xs i ys) (i + length ys) zs ≡ placed xs i (ys ++ zs)
  placed_on xs ys zs i h =
      rw (take-placed xs ys i h, drop-placed xs ys i (length zs) h)
      (simp (append_assoc, length-append, add_assoc) refl)

  pub placed-none : (xs : List X) (i : ℕ) → placed xs i [] ≡ xs
  placed-none xs i = simp add-zero (take-append-drop i xs)

  pub length-placed : (xs ys : List X) (i : ℕ) → i + length ys ≤ length xs → length (placed xs i ys) ≡ length xs
  length-placed xs ys i h =
      let low : i ≤ length xs = omega arith in
      simp (length-append, length-take-le, length-drop) (omega arith)

  -- the same of two writes, one after the other
  pub placed_then : (xs middle out ys zs : List X) (i j : ℕ) → i ≤ length xs → middle ≡ placed xs i ys → j ≡ i + length ys → out ≡ placed middle j zs → out ≡ placed xs i (ys ++ zs)
  placed_then xs middle out ys zs i j h first e second =
      second ∙ (ap (λ us. placed us j zs) first ∙ (ap (λ k. placed (placed xs i ys) k zs) e ∙ placed_on xs ys zs i h))

  -- one element written
  pub placed_one : (xs : List X) (i : ℕ) (b : X) → i < length xs → set xs i b ≡ placed xs i (b ∷ [])
  placed_one xs i b h =
      let same : suc i ≡ i + 1 = omega arith in
      set_split xs i b h ∙ ap (λ k. take i xs ++ (b ∷ drop k xs)) same

  -- an element written behind a piece
  pub placed-set : (xs middle ys : List X) (i j : ℕ) (b : X) → i + length ys < length xs → middle ≡ placed xs i ys → j ≡ i + length ys → set middle j b ≡ placed xs i (ys ++ (b ∷ []))
  placed-set xs middle ys i j b room first e =
      let same : length middle ≡ length xs = ap length first ∙ length-placed xs ys i (omega arith) in
      placed_then xs middle (set middle j b) ys (b ∷ []) i j (omega arith) first e (placed_one middle j b (omega arith))
