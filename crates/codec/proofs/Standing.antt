-- What stands at the front of some bytes, and at a place of a file.
use Rattle.std.proofs.Common.{◌≡◌, ℕ, true, false, ltb, IfSome, Option, Some, None, Result, ◌+◌, ◌-◌, ◌/◌, ◌%◌, ◌^◌, ◌<◌, ◌≤◌, List, [], ◌∷◌, ◌++◌, length, get_or, take, drop, Ok, Err, sym, refl, ap, ◌∙◌, subst, inl, inr, arith}
use Rattle.std.proofs.lemmas.List.{append_assoc, append_cancel_left, length-append, length-take-le, take-append-drop, take_at, drop_all, take_more}
use Rattle.std.proofs.lemmas.Bool.{cases_lt}
use Rattle.std.proofs.lemmas.Bool.Decides.{nat_tests}
use Rattle.codec.specs.Numbers.{code}
use Rattle.std.specs.List.{list_any}
use Rattle.std.specs.Result.{result_unwrap_or}
use Rattle.codec.specs.Pieces.{placed, Writes}
use Rattle.codec.specs.Reading.{Endless, Begins, Stands, Wrong, Reads, OneReading, WrittenReadsBack, ReadRewrites}
use Rattle.codec.specs.declared.numbers.NumberFault.{NumberFault}
use Rattle.codec.specs.declared.numbers.NumberFault.TheVariants.{CutShortAt, NotFewestAt}
use Rattle.codec.proofs.Coding.{by_bytes, code_last, code_more, code_some}
use Rattle.codec.proofs.Places.{take-placed, length-placed}

Alone : List ℕ → List ℕ → ℕ → Type 0
Alone r s m = (n : ℕ) → code m ++ r ≡ code n ++ s → (m ≡ n) × (r ≡ s)

alone_last : (r s : List ℕ) (m : ℕ) → m < 128 → Alone r s m
unfolding Alone
alone_last r s m a n e =
    elim (cases_lt n 128) [
      | inl b ↦ let p : m ∷ r ≡ n ∷ s = rw (code_last m a, code_last n b) at e in ((cc), (cc))
      | inr b ↦
          let p : m ∷ r ≡ (n % 128 + 128) ∷ (code (n / 128) ++ s) = rw (code_last m a, code_more n b) at e in
          let q : m ≡ n % 128 + 128 = cc in
          absurd (omega arith)
    ]

alone_more : (r s : List ℕ) (m : ℕ) → 128 ≤ m → Alone r s (m / 128) → Alone r s m
unfolding Alone
alone_more r s m a ih n e =
    elim (cases_lt n 128) [
      | inl b ↦
          let p : (m % 128 + 128) ∷ (code (m / 128) ++ r) ≡ n ∷ s = rw (code_more m a, code_last n b) at e in
          let q : m % 128 + 128 ≡ n = cc in
          absurd (omega arith)
      | inr b ↦
          let p : (m % 128 + 128) ∷ (code (m / 128) ++ r) ≡ (n % 128 + 128) ∷ (code (n / 128) ++ s) = rw (code_more m a, code_more n b) at e in
          let low : m % 128 + 128 ≡ n % 128 + 128 = cc in
          let tails : code (m / 128) ++ r ≡ code (n / 128) ++ s = cc in
          let high : m / 128 ≡ n / 128 = (ih (n / 128) tails).0 in
          (omega arith, (ih (n / 128) tails).1)
    ]

-- bytes begin with one number at most
pub same_front : (m n : ℕ) (r s : List ℕ) → code m ++ r ≡ code n ++ s → (m ≡ n) × (r ≡ s)
unfolding Alone
same_front m n r s e = by_bytes (Alone r s) (alone_last r s) (alone_more r s) m n e

-- a number has a byte below 80
pub ends : (n : ℕ) (rest : List ℕ) → Endless (code n ++ rest) → ⊥
ends n rest =
    by_bytes (λ m. Endless (code m ++ rest) → ⊥)
    (λ m a e. let p : Endless (m ∷ rest) = rw (code_last m a) at e in omega (arith, p.0))
    (λ m a ih e. let p : Endless ((m % 128 + 128) ∷ (code (m / 128) ++ rest)) = rw (code_more m a) at e in ih p.1)
    n

-- no byte is below 80, or some byte is
pub endless_if : (bs : List ℕ) → false ≡ list_any (λ b. ltb b 128) bs → Endless bs
endless_if [] e = tt
endless_if (b ∷ bs) e = grind (arith, nat_tests, endless_if bs)

pub not_endless_if : (bs : List ℕ) → true ≡ list_any (λ b. ltb b 128) bs → Endless bs → ⊥
not_endless_if [] e h = absurd (cc)
not_endless_if (b ∷ bs) e h = grind (arith, nat_tests, not_endless_if bs)

-- from the bytes behind a place to places in the file
whole : (file rest : List ℕ) (i n : ℕ) → Begins (drop i file) n rest → file ≡ (take i file ++ code n) ++ rest
whole file rest i n begins =
    sym (take-append-drop i file) ∙ (ap (λ bs. take i file ++ bs) begins ∙ sym (append_assoc (take i file) (code n) rest))

-- where a number stands, its place lies within the file
within : (file rest : List ℕ) (i n : ℕ) → Begins (drop i file) n rest → i ≤ length file
within file rest i n begins =
    elim (cases_lt i (length file)) [
      | inl l ↦ omega arith
      | inr l ↦
          let none : code n ++ rest ≡ [] = sym begins ∙ drop_all i file l in
          let lengths = length-append (code n) rest in
          absurd (omega (arith, ap length none, code_some n))
    ]

lengths : (file rest : List ℕ) (i n : ℕ) → Begins (drop i file) n rest → length file ≡ i + length (code n) + length rest
lengths file rest i n begins =
    let h = within file rest i n begins in
    ap length (whole file rest i n begins) ∙ simp (length-append, length-take-le) refl

pub stands : (file rest : List ℕ) (i n : ℕ) → n < 2 ^ 64 → Begins (drop i file) n rest → Stands file i n (length file - length rest)
stands file rest i n small begins =
    let h = within file rest i n begins in
    let e = whole file rest i n begins in
    let l = lengths file rest i n begins in
    let some = code_some n in
    let front : length (take i file ++ code n) ≡ length file - length rest = simp (length-append, length-take-le) (omega arith) in
    record {
      inside = omega arith;
      on = omega arith;
      small = small;
      text = ap (take (length file - length rest)) e ∙ take_at (take i file ++ code n) rest (length file - length rest) front;
    }

-- a byte below 80 is a number of its own
pub byte_stands : (file : List ℕ) (i b : ℕ) → i < length file → b ≡ get_or file i 0 → b < 128 → Stands file i b (i + 1)
byte_stands file i b inside e small = record {
  inside = omega arith;
  on = omega arith;
  small = omega arith;
  text = take_more file i 0 inside ∙ ap (λ piece. take i file ++ piece) (ap (λ n. n ∷ []) (sym e) ∙ sym (code_last b small));
}

-- and back: where a number stands, the rest of the file begins with it
pub begins_there : (file : List ℕ) (i n next : ℕ) → Stands file i n next → Begins (drop i file) n (drop next file)
begins_there file i n next there =
    append_cancel_left (take i file) (drop i file) (code n ++ drop next file)
    (take-append-drop i file
    ∙ (sym (take-append-drop next file)
    ∙ (ap (λ bs. bs ++ drop next file) there.text ∙ append_assoc (take i file) (code n) (drop next file))))

-- how far it reaches
pub reach : (file : List ℕ) (i n next : ℕ) → Stands file i n next → next ≡ i + length (code n)
reach file i n next there =
    let inside = there.inside in
    let on = there.on in
    let lengths = ap length there.text in
    let taken = length-take-le next file inside in
    let before = length-take-le i file (omega arith) in
    omega (arith, length-append (take i file) (code n))

-- one number at most stands at a place
pub one_stands : (file : List ℕ) (i m n j k : ℕ) → Stands file i m j → Stands file i n k → (m ≡ n) × (j ≡ k)
one_stands file i m n j k a b =
    let same = same_front m n (drop j file) (drop k file) (sym (begins_there file i m j a) ∙ begins_there file i n k b) in
    let e = same.0 in
    (e, reach file i m j a ∙ (ap (λ x. i + length (code x)) e ∙ sym (reach file i n k b)))

-- and where one stands, none is wrong
pub not_wrong : (file : List ℕ) (i n next : ℕ) (e : NumberFault) → Stands file i n next → Wrong file i e → ⊥
not_wrong file i n next (CutShortAt p) there wrong = ends n (drop next file) (subst Endless (begins_there file i n next there) wrong.1)
not_wrong file i n next (NotFewestAt p) there wrong = wrong.1.1 n (drop next file) there.small (begins_there file i n next there)

-- one fault at most is wrong
pub one_wrong : (file : List ℕ) (i : ℕ) (d e : NumberFault) → Wrong file i d → Wrong file i e → d ≡ e
one_wrong file i (CutShortAt p) (CutShortAt q) a b = ap CutShortAt (a.0 ∙ sym b.0)
one_wrong file i (CutShortAt p) (NotFewestAt q) a b = absurd (b.1.0 a.1)
one_wrong file i (NotFewestAt p) (CutShortAt q) a b = absurd (a.1.0 b.1)
one_wrong file i (NotFewestAt p) (NotFewestAt q) a b = ap NotFewestAt (a.0 ∙ sym b.0)

pub one_reading : OneReading
one_reading file i (Ok p) (Ok q) a b =
    let same = one_stands file i _ _ _ _ a b in
    let first : p.0 ≡ q.0 = same.0 in
    let second : p.1 ≡ q.1 = same.1 in
    ap (λ x. Ok (x, p.1)) first ∙ ap (λ y. Ok (q.0, y)) second
one_reading file i (Ok p) (Err e) a b = absurd (not_wrong file i _ _ e a b)
one_reading file i (Err d) (Ok q) a b = absurd (not_wrong file i _ _ d b a)
one_reading file i (Err d) (Err e) a b = ap Err (one_wrong file i d e a b)

-- what is placed stands there
pub placed_stands : (before after : List ℕ) (at n end : ℕ) → n < 2 ^ 64 → end ≡ at + length (code n) → end ≤ length before → after ≡ placed before at (code n) → Stands after at n end
placed_stands before after at n end small e room is =
    let some = code_some n in
    let same : length after ≡ length before = ap length is ∙ length-placed before (code n) at (omega arith) in
    let low : at ≤ length before = omega arith in
    let ahead : take at after ≡ take at before = ap (take at) is ∙ take_at (take at before) (code n ++ drop (at + length (code n)) before) at (length-take-le at before low) in
    record {
      inside = omega arith;
      on = omega arith;
      small = small;
      text = ap (λ k. take k after) e ∙ (ap (take (at + length (code n))) is ∙ (take-placed before (code n) at low ∙ ap (λ bs. bs ++ code n) (sym ahead)));
    }

pub written_reads_back : WrittenReadsBack
written_reads_back before after at n end small w = placed_stands before after at n end small w.0 w.1 w.2

-- a number that is written stands there
pub written_stands : (before after : List ℕ) (at n : ℕ) (answer : Option ℕ) → n < 2 ^ 64 → Writes (code n) before at after answer → IfSome answer (λ end. Stands after at n end)
written_stands before after at n None small w = tt
written_stands before after at n (Some end) small w = written_reads_back before after at n end small w

-- what a reader answers, for a number that stands there
pub known : (file : List ℕ) (at : ℕ) (answer : Result (ℕ × ℕ) NumberFault) (none told : ℕ × ℕ) → Reads file at answer → told ≡ result_unwrap_or answer none → (n next : ℕ) → Stands file at n next → (n ≡ told.0) × (next ≡ told.1)
known file at (Ok p) none told reads e n next there =
    let same = one_stands file at _ _ _ _ there reads in
    (same.0 ∙ ap (λ q. q.0) (sym e), same.1 ∙ ap (λ q. q.1) (sym e))
known file at (Err e) none told wrong _ n next there = absurd (not_wrong file at _ _ e there wrong)

pub read_rewrites : ReadRewrites
read_rewrites file at n next there =
    let e = reach file at n next there in
    (e, there.inside, sym (take-append-drop at file) ∙ ap (λ bs. take at file ++ bs) (begins_there file at n next there ∙ ap (λ k. code n ++ drop k file) e))
