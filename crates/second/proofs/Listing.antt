-- The lists from an alphabet, by their number.
use Rattle.std.proofs.Common.{◌≡◌, ℕ, zero, suc, ◌+◌, ◌-◌, ◌*◌, ◌/◌, ◌%◌, ◌^◌, ◌<◌, List, [], ◌∷◌, ◌++◌, length, take, get_or, reverse, map, sym, ap, ◌∙◌, subst, add-one, arith}
use Rattle.std.specs.List.{flat_map, AllZip}
use Rattle.std.proofs.lemmas.List.{append_assoc, append-nil, length-append, length-map, length-take-le, get_or-map, reverse-append}
use Rattle.std.proofs.lemmas.List.Elements.{AllZip-push}
use Rattle.std.proofs.lemmas.Grind.{reverse_onto}
use Rattle.std.proofs.lemmas.List.Concat.{get_or-flat_map}
use Rattle.std.proofs.lemmas.Nat.{div-add-mod', div_below, mod_below}
use Rattle.std.proofs.Math.Nat.{zero-mul, mul-zero, not-suc-le-zero, suc-mul, pow-zero, pow-suc}
use Rattle.second.specs.Lists.{lists_of, lists_below}

-- blocks of one length
blocks : {X A : Type 0} (f : X → List A) (b : ℕ) → ((x : X) → length (f x) ≡ b) → (xs : List X) → length (flat_map f xs) ≡ length xs * b
blocks f b long [] = sym (zero-mul b)
blocks f b long (x ∷ xs) = omega (arith, length-append (f x) (flat_map f xs), long x, blocks f b long xs, suc-mul (length xs) b)

module _ {T : Type 0} (alphabet : List T) where
  abbrev longer : List T → List (List T)
  longer front = map (λ last. front ++ (last ∷ [])) alphabet

  length-longer : (front : List T) → length (longer front) ≡ length alphabet
  length-longer front = length-map alphabet (λ last. front ++ (last ∷ []))

  pub length-lists_of : (n : ℕ) → length (lists_of alphabet n) ≡ length alphabet ^ n
  unfolding lists_of
  length-lists_of zero = sym (pow-zero (length alphabet))
  length-lists_of (suc n) = blocks longer (length alphabet) length-longer (lists_of alphabet n) ∙ (ap (λ k. k * length alphabet) (length-lists_of n) ∙ sym (pow-suc (length alphabet) n))

  -- the last item and what stands before it
  pub list_more : (n m : ℕ) (d : T) → 0 < length alphabet → m < length alphabet ^ suc n →
      get_or (lists_of alphabet (suc n)) m [] ≡ get_or (lists_of alphabet n) (m / length alphabet) [] ++ (get_or alphabet (m % length alphabet) d ∷ [])
  unfolding lists_of
  list_more n m d some below =
      let b = length alphabet in
      let fronts = lists_of alphabet n in
      let few : m / b < length fronts = rw (length-lists_of n) (div_below m b (b ^ n) some (subst (λ k. m < k) (pow-suc b n) below)) in
      let low : m % b < b = mod_below m b some in
      let front = get_or fronts (m / b) [] in
      let before : length (flat_map longer (take (m / b) fronts)) ≡ m / b * b = blocks longer b length-longer (take (m / b) fronts) ∙ ap (λ k. k * b) (length-take-le (m / b) fronts (omega (arith, few))) in
      let at : length (flat_map longer (take (m / b) fronts)) + m % b ≡ m = ap (λ k. k + m % b) before ∙ div-add-mod' m b in
      ap (λ k. get_or (flat_map longer fronts) k []) (sym at)
      ∙ (get_or-flat_map longer fronts (m / b) (m % b) [] [] few (subst (λ k. m % b < k) (sym (length-longer front)) low)
      ∙ get_or-map (λ last. front ++ (last ∷ [])) alphabet (m % b) d [] low)

-- what is cloned item by item is so in the other order too
reversed : {T : Type 0} (clones : T → T → Type 0) (xs ys : List T) → AllZip clones xs ys → AllZip clones (reverse xs) (reverse ys)
reversed clones [] [] e = tt
reversed clones [] (y ∷ ys) e = absurd e
reversed clones (x ∷ xs) [] e = absurd e
reversed clones (x ∷ xs) (y ∷ ys) e =
    rw (reverse_onto xs x [], reverse_onto ys y []) (AllZip-push clones (reverse xs) (reverse ys) x y (reversed clones xs ys e.1) e.0)

-- `items` are the last of the list of a number, from its end; the `left` that stand before them are the list of the number `rest`
pub record Ending {T : Type 0} (clones : T → T → Type 0) (alphabet : List T) (len number : ℕ) (items : List T) (rest place : ℕ) : Type 0 where
  pub left : ℕ
  pub last : List T
  pub places : place + left ≡ len
  pub below : rest < length alphabet ^ left
  pub made : AllZip clones last items
  pub joined : get_or (lists_of alphabet len) number [] ≡ get_or (lists_of alphabet left) rest [] ++ reverse last

-- there is an item where a place is left
some_item : {T : Type 0} (alphabet : List T) (left rest : ℕ) → rest < length alphabet ^ suc left → 0 < length alphabet
some_item [] left rest below = absurd (not-suc-le-zero (subst (λ k. rest < k) (pow-suc 0 left ∙ mul-zero (0 ^ left)) below))
some_item (x ∷ xs) left rest below = omega arith

module _ {T : Type 0} (clones : T → T → Type 0) (alphabet : List T) (len number : ℕ) where
  pub ending_none : number < length alphabet ^ len → Ending clones alphabet len number [] number 0
  ending_none below = record {
    left = len;
    last = [];
    places = omega arith;
    below = below;
    made = tt;
    joined = sym (append-nil (get_or (lists_of alphabet len) number []));
  }

  -- one item more, from the end on
  one_more : (items : List T) (rest place n : ℕ) (d item : T) (last : List T) → place + suc n ≡ len → rest < length alphabet ^ suc n →
      AllZip clones last items → get_or (lists_of alphabet len) number [] ≡ get_or (lists_of alphabet (suc n)) rest [] ++ reverse last →
      clones (get_or alphabet (rest % length alphabet) d) item →
      Ending clones alphabet len number (items ++ (item ∷ [])) (rest / length alphabet) (place + 1)
  one_more items rest place n d item last places below made joined is =
      let b = length alphabet in
      let x = get_or alphabet (rest % b) d in
      let some = some_item alphabet n rest below in
      let front = get_or (lists_of alphabet n) (rest / b) [] in record {
        left = n;
        last = last ++ (x ∷ []);
        places = omega (arith, places);
        below = div_below rest b (b ^ n) some (subst (λ k. rest < k) (pow-suc b n) below);
        made = AllZip-push clones last items x item made is;
        joined = joined ∙ (ap (λ l. l ++ reverse last) (list_more alphabet n rest d some below)
            ∙ (append_assoc front (x ∷ []) (reverse last) ∙ ap (λ l. front ++ l) (sym (reverse-append last (x ∷ [])))));
      }

  pub ending_some : (items : List T) (rest place : ℕ) → place < len → Ending clones alphabet len number items rest place → 0 < length alphabet
  ending_some items rest place more e =
      let n = e.left - 1 in
      let next : e.left ≡ suc n = omega (arith, more, e.places) in
      some_item alphabet n rest (subst (λ k. rest < length alphabet ^ k) next e.below)

  pub ending_more : (items : List T) (rest place : ℕ) (d item : T) → place < len → Ending clones alphabet len number items rest place →
      clones (get_or alphabet (rest % length alphabet) d) item →
      Ending clones alphabet len number (items ++ (item ∷ [])) (rest / length alphabet) (place + 1)
  ending_more items rest place d item more e is =
      let n = e.left - 1 in
      let next : e.left ≡ suc n = omega (arith, more, e.places) in
      one_more items rest place n d item e.last (omega (arith, next, e.places)) (subst (λ k. rest < length alphabet ^ k) next e.below) e.made
      (subst (λ k. get_or (lists_of alphabet len) number [] ≡ get_or (lists_of alphabet k) rest [] ++ reverse e.last) next e.joined) is

  -- no place is left, and so the list is what was made, in the other order
  pub ending_all : (items : List T) (rest : ℕ) → Ending clones alphabet len number items rest len →
      AllZip clones (get_or (lists_of alphabet len) number []) (reverse items)
  unfolding lists_of
  ending_all items rest e =
      let none : e.left ≡ 0 = omega (arith, e.places) in
      let first : rest ≡ 0 = omega (arith, subst (λ k. rest < k) (ap (λ k. length alphabet ^ k) none ∙ pow-zero (length alphabet)) e.below) in
      let whole : get_or (lists_of alphabet e.left) rest [] ≡ [] = ap (λ k. get_or (lists_of alphabet k) rest []) none ∙ ap (λ k. get_or (lists_of alphabet 0) k []) first in
      rw (e.joined, whole) (reversed clones e.last items e.made)

-- two pairs of lists, joined
zip_join : {A B : Type 0} (R : A → B → Type 0) (xs ys : List A) (us vs : List B) → AllZip R xs us → AllZip R ys vs → AllZip R (xs ++ ys) (us ++ vs)
zip_join R [] ys [] vs e f = f
zip_join R [] ys (u ∷ us) vs e f = absurd e
zip_join R (x ∷ xs) ys [] vs e f = absurd e
zip_join R (x ∷ xs) ys (u ∷ us) vs e f = (e.0, zip_join R xs ys us vs e.1 f)

-- the lists of one length more
pub below_more : {T B : Type 0} (R : List T → B → Type 0) (alphabet : List T) (n : ℕ) (shorter more : List B) →
    AllZip R (lists_below alphabet n) shorter → AllZip R (lists_of alphabet n) more → AllZip R (lists_below alphabet (n + 1)) (shorter ++ more)
unfolding lists_below
below_more R alphabet n shorter more e f = subst (λ k. AllZip R (lists_below alphabet k) (shorter ++ more)) (sym (add-one n)) (zip_join R (lists_below alphabet n) (lists_of alphabet n) shorter more e f)

pub below_none : {T B : Type 0} (R : List T → B → Type 0) (alphabet : List T) → AllZip R (lists_below alphabet 0) []
unfolding lists_below
below_none R alphabet = tt
