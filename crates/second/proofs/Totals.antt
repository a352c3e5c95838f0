-- The total models of few states, as they are made.
use Rattle.std.proofs.Common.{◌≡◌, ℕ, zero, suc, ◌+◌, ◌-◌, ◌^◌, ◌<◌, ◌≤◌, min, Vec, Global, List, [], ◌∷◌, ◌++◌, map, sym, refl, ap, ◌∙◌, add-one, arith}
use Rattle.std.specs.List.{flat_map, AllZip, range_with_len}
use Rattle.std.proofs.lemmas.List.{map-append}
use Rattle.std.proofs.lemmas.List.Elements.{same_from_all_zip}
use Rattle.std.proofs.lemmas.List.FromFn.{map-range_with_len_more}
use Rattle.std.proofs.Math.Pow.{pow_mono}
use Rattle.second.specs.declared.oracle.State.{State}
use Rattle.second.specs.declared.oracle.Plain.{Plain}
use Rattle.second.specs.Lists.{lists_of}
use Rattle.second.specs.Totals.{told, model, state_of, states_of, totals_below}

-- one state more
pub more_state : (n number : ℕ) (items : List State) (s : State) → 2 ≤ number → map told items ≡ map (state_of n) (range_with_len 2 (number - 2)) →
    told s ≡ state_of n number → map told (items ++ (s ∷ [])) ≡ map (state_of n) (range_with_len 2 (number + 1 - 2))
more_state n number items s from so_far is =
    let count : number + 1 - 2 ≡ number - 2 + 1 = omega (arith, from) in
    let place : 2 + (number - 2) ≡ number = omega (arith, from) in
    map-append told items (s ∷ [])
    ∙ (ap (λ l. l ++ (told s ∷ [])) so_far
    ∙ (ap (λ x. map (state_of n) (range_with_len 2 (number - 2)) ++ (x ∷ [])) is
    ∙ (sym (map-range_with_len_more (state_of n) 2 (number - 2) number place)
    ∙ ap (λ k. map (state_of n) (range_with_len 2 k)) (sym count))))

-- the numbers below 2 ^ (n + 1) are all told where they fit
pub all_states : (n top number : ℕ) → n < 31 → top ≡ min (2 ^ (n + 1)) (2 ^ 32 - 1) → top ≤ number → (2 ≤ top → number ≤ top) → map (state_of n) (range_with_len 2 (number - 2)) ≡ states_of n
unfolding states_of
all_states n top number few top_is past up =
    let fits : n + 1 ≤ 31 = omega (arith, few) in
    let some : 1 ≤ n + 1 = omega arith in
    let two : 2 ≤ top = omega (arith, top_is, pow_mono some) in
    let whole : number - 2 ≡ 2 ^ (n + 1) - 2 = omega (arith, top_is, past, up two, pow_mono fits) in
    ap (λ k. map (state_of n) (range_with_len 2 k)) whole

-- the lists from an alphabet that is told by a function
module _ {A B : Type 0} (f : A → B) where
  told_last : (front : List A) (alphabet : List A) →
      map (map f) (map (λ last. front ++ (last ∷ [])) alphabet) ≡ map (λ last. map f front ++ (last ∷ [])) (map f alphabet)
  told_last front [] = refl
  told_last front (x ∷ xs) = λ i. map-append f front (x ∷ []) i ∷ told_last front xs i

  told_longer : (alphabet : List A) (fronts : List (List A)) →
      map (map f) (flat_map (λ front. map (λ last. front ++ (last ∷ [])) alphabet) fronts)
      ≡ flat_map (λ front. map (λ last. front ++ (last ∷ [])) (map f alphabet)) (map (map f) fronts)
  told_longer alphabet [] = refl
  told_longer alphabet (x ∷ xs) =
      map-append (map f) (map (λ last. x ++ (last ∷ [])) alphabet) (flat_map (λ front. map (λ last. front ++ (last ∷ [])) alphabet) xs)
      ∙ (λ i. told_last x alphabet i ++ told_longer alphabet xs i)

  pub lists_told : (alphabet : List A) (n : ℕ) → map (map f) (lists_of alphabet n) ≡ lists_of (map f alphabet) n
  unfolding lists_of
  lists_told alphabet zero = refl
  lists_told alphabet (suc n) =
      told_longer alphabet (lists_of alphabet n) ∙ ap (flat_map (λ front. map (λ last. front ++ (last ∷ [])) (map f alphabet))) (lists_told alphabet n)

-- clones are told alike
module _ (clones : State → State → Type 0) (alike : (x y : State) → clones x y → told y ≡ told x) where
  told_clones : (xs ys : List State) → AllZip clones xs ys → map told ys ≡ map told xs
  told_clones [] [] e = refl
  told_clones [] (y ∷ ys) e = absurd e
  told_clones (x ∷ xs) [] e = absurd e
  told_clones (x ∷ xs) (y ∷ ys) e = λ i. alike x y e.0 i ∷ told_clones xs ys e.1 i

  told_models : {V : Type 0} (items : V → List State) (lists : List (List State)) (made : List V) →
      AllZip (λ list v. AllZip clones list (items v)) lists made → map (λ v. map told (items v)) made ≡ map (map told) lists
  told_models items [] [] e = refl
  told_models items [] (v ∷ vs) e = absurd e
  told_models items (l ∷ ls) [] e = absurd e
  told_models items (l ∷ ls) (v ∷ vs) e = λ i. told_clones l (items v) e.0 i ∷ told_models items ls vs e.1 i

  plain_told : (made : List (Vec State Global)) → map model (map (λ v. record { states = v }) made) ≡ map (λ v. map told v.items) made
  plain_told [] = refl
  plain_told (v ∷ vs) = ap (λ l. map told v.items ∷ l) (plain_told vs)

  -- the models of one size, where each list of states is a model
  pub all_told : (size : ℕ) (models : List Plain) (states : List State) (made : List (Vec State Global)) →
      models ≡ map (λ v. record { states = v }) made → map told states ≡ states_of size →
      AllZip (λ list v. AllZip clones list v.items) (lists_of states size) made → map model models ≡ lists_of (states_of size) size
  all_told size models states made is states_are zip =
      ap (map model) is
      ∙ (plain_told made
      ∙ (told_models (λ v. v.items) (lists_of states size) made zip
      ∙ (lists_told told states size ∙ ap (λ s. lists_of s size) states_are)))

-- a clone of a state is told as the state
pub told_clone : (x y : State) → (y.label ≡ x.label) × (AllZip (λ s t. t ≡ s) x.moves.items y.moves.items × (y.moves.len ≡ x.moves.len)) → told y ≡ told x
told_clone x y is = λ i. (is.0 i, same_from_all_zip (λ s t. t ≡ s) x.moves.items y.moves.items is.1.0 (λ s t e. e) i)

-- the models of one size more
pub one_more : (size : ℕ) (old more : List Plain) → 1 ≤ size → map model old ≡ totals_below size → map model more ≡ lists_of (states_of size) size →
    map model (old ++ more) ≡ totals_below (size + 1)
unfolding totals_below
one_more size old more some old_is more_is =
    let next : size ≡ suc (size - 1) = omega (arith, some) in
    map-append model old more
    ∙ ((λ i. old_is i ++ more_is i)
    ∙ (ap (λ k. totals_below k ++ lists_of (states_of k) k) next
    ∙ ap totals_below (ap suc (sym next) ∙ sym (add-one size))))

pub none_below : [] ≡ totals_below 1
unfolding totals_below
none_below = refl
