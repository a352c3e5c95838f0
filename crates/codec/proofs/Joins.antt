-- Pieces joined one after another.
use Rattle.std.proofs.Common.{◌≡◌, ℕ, ◌+◌, ◌<◌, ◌≤◌, List, [], ◌++◌, length, get_or, take, drop, sym, ap, ◌∙◌, arith}
use Rattle.std.specs.List.{flat_map}
use Rattle.std.proofs.lemmas.Grind.{flat_map-append}
use Rattle.std.proofs.lemmas.List.{length-append, take-append-drop, take_more, flat_map_more}
use Rattle.std.proofs.lemmas.List.Folds.{length-flat_map-take}

module _ {X A : Type 0} (f : X → List A) where
  pub joined-append : (xs ys : List X) → flat_map f (xs ++ ys) ≡ flat_map f xs ++ flat_map f ys
  joined-append = flat_map-append f

  -- what the first pieces take is no more than all take
  pub joined_front : (xs : List X) (i : ℕ) → length (flat_map f (take i xs)) ≤ length (flat_map f xs)
  joined_front xs i =
      let split = ap (flat_map f) (sym (take-append-drop i xs)) ∙ joined-append (take i xs) (drop i xs) in
      omega (arith, simp length-append at (ap length split))

  pub length_step : (xs : List X) (i : ℕ) (d : X) → i < length xs → length (flat_map f (take (i + 1) xs)) ≡ length (flat_map f (take i xs)) + length (f (get_or xs i d))
  length_step xs i d h =
      let next = ap (flat_map f) (take_more xs i d h) ∙ sym (flat_map_more f [] (take i xs) (get_or xs i d)) in
      ap length next ∙ length-append (flat_map f (take i xs)) _

  -- what the pieces take up to one of them, and with it, is no more than all take
  pub joined_within : (xs : List X) (i : ℕ) (d : X) → i < length xs → length (flat_map f (take i xs)) + length (f (get_or xs i d)) ≤ length (flat_map f xs)
  joined_within = length-flat_map-take f
