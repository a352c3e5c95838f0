-- Lists from an alphabet.
use Rattle.std.specs.Prelude.{ℕ, zero, suc, List, [], ◌∷◌, ◌++◌, map}
use Rattle.std.specs.List.{flat_map}

-- every list of `len` items of an alphabet; the last item changes first
unfoldable pub lists_of : {T : Type 0} → List T → ℕ → List (List T)
lists_of alphabet zero = [] ∷ []
lists_of alphabet (suc len) = flat_map (λ front. map (λ last. front ++ (last ∷ [])) alphabet) (lists_of alphabet len)

-- the same of fewer than `bound` items, the shorter first
unfoldable pub lists_below : {T : Type 0} → List T → ℕ → List (List T)
lists_below alphabet zero = []
lists_below alphabet (suc bound) = lists_below alphabet bound ++ lists_of alphabet bound
