-- A piece laid over the front of a list, and more laid behind it.
use Rattle.std.proofs.Common.{◌≡◌, ℕ, zero, suc, ◌+◌, ◌-◌, ◌<◌, ◌≤◌, min, List, [], ◌∷◌, ◌++◌, length, take, drop, set, sym, refl, ap, ◌∙◌, arith}
use Rattle.std.proofs.lemmas.List.{append-nil, drop_all, drop-drop, length-append, length-drop, take_all, take_at}
use borrow.Rule.Slice.PartMut.{mid_of, post_of, put_mid}
use Rattle.codec.specs.Pieces.{laid, placed, Lays}

module _ {X : Type 0} where
  laid-none : (xs : List X) → laid xs [] ≡ xs
  laid-none [] = refl
  laid-none (x ∷ xs) = refl

  -- nothing, laid
  pub lays_none : (xs : List X) → Lays [] xs xs 0
  lays_none xs = record { over = sym (laid-none xs); counts = omega arith }

  pub length-laid : (xs piece : List X) → length (laid xs piece) ≡ length xs
  length-laid [] piece = refl
  length-laid (x ∷ xs) [] = refl
  length-laid (x ∷ xs) (y ∷ piece) = ap suc (length-laid xs piece)

  -- a part up to the end of a list
  rest_is : (xs : List X) (k : ℕ) → mid_of k (length xs - k) xs ≡ drop k xs
  rest_is xs k = take_all (length xs - k) (drop k xs) (omega (arith, length-drop k xs))

  none_behind : (xs : List X) (k : ℕ) → post_of k (length xs - k) xs ≡ []
  none_behind xs k = drop_all (length xs - k) (drop k xs) (omega (arith, length-drop k xs))

  laid_behind : (k : ℕ) (xs piece more : List X) → k ≡ min (length piece) (length xs) → take k (laid xs piece) ++ laid (drop k (laid xs piece)) more ≡ laid xs (piece ++ more)
  laid_behind zero [] piece more e = refl
  laid_behind (suc k) [] piece more e = absurd (omega arith)
  laid_behind zero (x ∷ xs) [] more e = refl
  laid_behind (suc k) (x ∷ xs) [] more e = absurd (omega arith)
  laid_behind zero (x ∷ xs) (y ∷ piece) more e = absurd (omega arith)
  laid_behind (suc k) (x ∷ xs) (y ∷ piece) more e = ap (λ zs. y ∷ zs) (laid_behind k xs piece more (omega arith))

  -- a piece, and more laid behind it, are one piece
  pub lays_then : (xs middle out piece more : List X) (k m : ℕ) → Lays piece xs middle k → Lays more (mid_of k (length middle - k) middle) out m → Lays (piece ++ more) xs (put_mid k (length middle - k) middle out) (k + m)
  lays_then xs middle out piece more k m first second =
      let e = first.counts in
      let f = second.counts in
      let same : length middle ≡ length xs = ap length first.over ∙ length-laid xs piece in
      let rest = ap length (rest_is middle k) ∙ length-drop k middle in
      record {
        over =
            ap (λ ys. take k middle ++ (out ++ ys)) (none_behind middle k)
            ∙ (ap (λ ys. take k middle ++ ys) (append-nil out ∙ (second.over ∙ ap (λ ys. laid ys more) (rest_is middle k)))
            ∙ (ap (λ ys. take k ys ++ laid (drop k ys) more) first.over
            ∙ laid_behind k xs piece more e));
        counts = omega (arith, length-append piece more);
      }

  laid_room : (xs piece : List X) → length piece ≤ length xs → laid xs piece ≡ piece ++ drop (length piece) xs
  laid_room [] [] h = refl
  laid_room [] (y ∷ piece) h = absurd (omega arith)
  laid_room (x ∷ xs) [] h = refl
  laid_room (x ∷ xs) (y ∷ piece) h = ap (λ zs. y ∷ zs) (laid_room xs piece (omega arith))

  -- a piece that has room stands at the front
  pub lays_whole : (xs out piece : List X) (count : ℕ) → length piece ≤ length xs → Lays piece xs out count → take count out ≡ piece
  lays_whole xs out piece count h lays =
      let counts = lays.counts in
      let all : count ≡ length piece = omega arith in
      ap (take count) (lays.over ∙ laid_room xs piece h) ∙ take_at piece (drop (length piece) xs) count (sym all)

  -- a piece that has room from a place on, laid over what stands there
  pub lays_placed : (xs out piece : List X) (i count : ℕ) → i + length piece ≤ length xs → Lays piece (mid_of i (length xs - i) xs) out count → put_mid i (length xs - i) xs out ≡ placed xs i piece
  lays_placed xs out piece i count h lays =
      let room : length piece ≤ length (drop i xs) = omega (arith, length-drop i xs) in
      ap (λ ys. take i xs ++ (out ++ ys)) (none_behind xs i)
      ∙ (ap (λ ys. take i xs ++ ys) (append-nil out ∙ (lays.over ∙ ap (λ ys. laid ys piece) (rest_is xs i)))
      ∙ (ap (λ ys. take i xs ++ ys) (laid_room (drop i xs) piece room)
      ∙ ap (λ ys. take i xs ++ (piece ++ ys)) (drop-drop (length piece) i xs)))

  -- one element
  pub lays_one : (xs : List X) (b : X) → 0 < length xs → Lays (b ∷ []) xs (set xs 0 b) 1
  lays_one [] b h = absurd (omega arith)
  lays_one (x ∷ xs) b h = record { over = ap (λ ys. b ∷ ys) (sym (laid-none xs)); counts = omega arith }

  -- two elements, and three
  pub lays_two : (xs : List X) (a b : X) → 2 ≤ length xs → Lays (a ∷ b ∷ []) xs (set (set xs 0 a) 1 b) 2
  lays_two [] a b h = absurd (omega arith)
  lays_two (x ∷ []) a b h = absurd (omega arith)
  lays_two (x ∷ y ∷ xs) a b h = record { over = ap (λ ys. a ∷ b ∷ ys) (sym (laid-none xs)); counts = omega arith }

  pub lays_three : (xs : List X) (a b c : X) → 3 ≤ length xs → Lays (a ∷ b ∷ c ∷ []) xs (set (set (set xs 0 a) 1 b) 2 c) 3
  lays_three [] a b c h = absurd (omega arith)
  lays_three (x ∷ []) a b c h = absurd (omega arith)
  lays_three (x ∷ y ∷ []) a b c h = absurd (omega arith)
  lays_three (x ∷ y ∷ z ∷ xs) a b c h = record { over = ap (λ ys. a ∷ b ∷ c ∷ ys) (sym (laid-none xs)); counts = omega arith }

  laid_front : (xs piece : List X) (count : ℕ) → count ≡ min (length piece) (length xs) → laid xs piece ≡ take count piece ++ drop count xs
  laid_front [] piece zero e = refl
  laid_front [] piece (suc k) e = absurd (omega arith)
  laid_front (x ∷ xs) [] zero e = refl
  laid_front (x ∷ xs) [] (suc k) e = absurd (omega arith)
  laid_front (x ∷ xs) (y ∷ piece) zero e = absurd (omega arith)
  laid_front (x ∷ xs) (y ∷ piece) (suc k) e = ap (λ zs. y ∷ zs) (laid_front xs piece k (omega arith))

  -- the front of a piece, as much as has room
  pub lays_front : (xs piece front : List X) (count : ℕ) → count ≡ min (length piece) (length xs) → front ≡ take count piece → Lays piece xs (front ++ drop count xs) count
  lays_front xs piece front count e f = record { over = ap (λ ys. ys ++ drop count xs) f ∙ sym (laid_front xs piece count e); counts = e }
