-- A number laid over the front of a list, one byte after another.
use Rattle.std.proofs.Common.{◌≡◌, ℕ, ◌+◌, ◌/◌, ◌%◌, ◌<◌, ◌≤◌, min, List, [], ◌∷◌, ◌++◌, length, take, drop, set, sym, refl, ap, ◌∙◌, subst, add-one, arith}
use Rattle.std.proofs.lemmas.List.{append_assoc, length-append, take_all, take-append-le}
use Rattle.codec.specs.Numbers.{code}
use Rattle.codec.specs.Pieces.{placed, Lays}
use Rattle.codec.proofs.Coding.{code_last, code_more, code_some}
use Rattle.codec.proofs.Laid.{lays_front}
use Rattle.codec.proofs.Places.{placed-none, placed-set}

-- the first `end` bytes of n are laid, and those of `left` are still to come
abbrev pub Laying : ℕ → (before now : List ℕ) (end left : ℕ) → Type 0
Laying n before now end left = (done : List ℕ) × (code n ≡ done ++ code left) × (length done ≡ end) × (now ≡ placed before 0 done)

pub laying_none : (n : ℕ) (before : List ℕ) → Laying n before before 0 n
laying_none n before = ([], refl, refl, sym (placed-none before 0))

pub laying_more : (n : ℕ) (before now : List ℕ) (end left : ℕ) → end < length before → 128 ≤ left → Laying n before now end left →
    Laying n before (set now end (left % 128 + 128)) (end + 1) (left / 128)
laying_more n before now end left room more l =
    let b = left % 128 + 128 in (
      l.0 ++ (b ∷ []),
      l.1 ∙ (ap (λ bs. l.0 ++ bs) (code_more left more) ∙ sym (append_assoc l.0 (b ∷ []) (code (left / 128)))),
      omega (arith, length-append l.0 (b ∷ []), l.2),
      placed-set before now l.0 0 end b (omega (arith, l.2, room)) l.3 (omega (arith, l.2)),
    )

-- a piece over the front, with what is left behind it
at_front : (before piece : List ℕ) → piece ++ drop (length piece) before ≡ placed before 0 piece
at_front before piece = let e : length piece ≡ 0 + length piece = omega arith in ap (λ k. piece ++ drop k before) e

-- a piece that has room is laid whole
whole : (before piece : List ℕ) (count : ℕ) → length piece ≡ count → count ≤ length before → Lays piece before (placed before 0 piece) count
whole before piece count long room =
    subst (Lays piece before (placed before 0 piece)) long
    (subst (λ now. Lays piece before now (length piece)) (at_front before piece)
    (lays_front before piece piece (length piece) (omega (arith, long, room)) (sym (take_all (length piece) piece (omega arith)))))

pub laying_last : (n : ℕ) (before now : List ℕ) (end left : ℕ) → end < length before → left < 128 → Laying n before now end left →
    Lays (code n) before (set now end left) (end + 1)
laying_last n before now end left room last l =
    let bytes : code n ≡ l.0 ++ (left ∷ []) = l.1 ∙ ap (λ bs. l.0 ++ bs) (code_last left last) in
    let now' : set now end left ≡ placed before 0 (l.0 ++ (left ∷ [])) = placed-set before now l.0 0 end left (omega (arith, l.2, room)) l.3 (omega (arith, l.2)) in
    rw (bytes, now') (whole before (l.0 ++ (left ∷ [])) (end + 1) (omega (arith, length-append l.0 (left ∷ []), l.2)) (omega (arith, room)))

pub laying_full : (n : ℕ) (before now : List ℕ) (end left count : ℕ) → end ≡ length before → count ≡ end → Laying n before now end left →
    Lays (code n) before now count
laying_full n before now end left count full all l =
    let front : l.0 ≡ take count (code n) = sym (ap (take count) l.1 ∙ (take-append-le count l.0 (code left) (omega (arith, all, l.2)) ∙ take_all count l.0 (omega (arith, all, l.2)))) in
    let long : length (code n) ≡ length l.0 + length (code left) = ap length l.1 ∙ length-append l.0 (code left) in
    let same : length l.0 ≡ count = omega (arith, all, l.2) in
    rw l.3 (subst (Lays (code n) before (placed before 0 l.0)) same
    (subst (λ out. Lays (code n) before out (length l.0)) (at_front before l.0)
    (lays_front before (code n) l.0 (length l.0) (omega (arith, full, l.2, long)) (front ∙ ap (λ k. take k (code n)) (sym same)))))
