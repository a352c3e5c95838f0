-- A piece written into the part of a buffer that a file may fill.
use Rattle.std.proofs.Common.{◌≡◌, ℕ, ◌+◌, ◌<◌, ◌≤◌, min, List, ◌++◌, length, take, drop, Some, None, Option, sym, ap, ◌∙◌, arith}
use Rattle.std.proofs.lemmas.List.{append_assoc, drop-append-le, length-take-le, take-append-drop, take-take}
use Rattle.codec.specs.Pieces.{placed, Writes}
use Rattle.modelfile.specs.Files.{longest}
use Rattle.writing.specs.Appends.{Appends}

-- behind a place within the front, the front goes on with the rest
drop_front : (xs : List ℕ) (k limit : ℕ) → k ≤ limit → limit ≤ length xs → drop k (take limit xs) ++ drop limit xs ≡ drop k xs
drop_front xs k limit h room =
    let long = length-take-le limit xs room in
    sym (drop-append-le k (take limit xs) (drop limit xs) (omega arith)) ∙ ap (drop k) (take-append-drop limit xs)

placed_front : (xs piece : List ℕ) (len limit : ℕ) → len + length piece ≤ limit → limit ≤ length xs → placed (take limit xs) len piece ++ drop limit xs ≡ placed xs len piece
placed_front xs piece len limit h room =
    append_assoc (take len (take limit xs)) (piece ++ drop (len + length piece) (take limit xs)) (drop limit xs)
    ∙ (ap (λ ys. ys ++ ((piece ++ drop (len + length piece) (take limit xs)) ++ drop limit xs)) (take-take len limit xs (omega arith))
    ∙ ap (λ ys. take len xs ++ ys)
    (append_assoc piece (drop (len + length piece) (take limit xs)) (drop limit xs) ∙ ap (λ ys. piece ++ ys) (drop_front xs (len + length piece) limit h room)))

pub appended : (piece xs ys : List ℕ) (len limit : ℕ) (answer : Option ℕ) → limit ≡ min (length xs) longest → Writes piece (take limit xs) len ys answer → Appends piece xs len (ys ++ drop limit xs) answer
appended piece xs ys len limit None e w =
    let inside : limit ≤ length xs = omega arith in
    let long = length-take-le limit xs inside in
    let over : limit < len + length piece = omega (arith, w.0) in
    (λ space. omega (arith, space.0, space.1), ap (λ zs. zs ++ drop limit xs) w.1 ∙ take-append-drop limit xs)
appended piece xs ys len limit (Some end) e w =
    let inside : limit ≤ length xs = omega arith in
    let long = length-take-le limit xs inside in
    let fits : len + length piece ≤ limit = omega (arith, w.0, w.1) in
    ((omega arith, omega arith), w.0, ap (λ zs. zs ++ drop limit xs) w.2 ∙ placed_front xs piece len limit fits inside)
