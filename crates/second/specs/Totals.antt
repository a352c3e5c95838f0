-- The total models of few states with one word, by number.
use Rattle.std.specs.Prelude.{ℕ, zero, suc, List, [], ◌++◌, ◌+◌, ◌-◌, ◌/◌, ◌%◌, ◌^◌, ◌==◌, map}
use Rattle.std.specs.List.{filter, range_with_len}
use Rattle.second.specs.Lists.{lists_of}
use Rattle.second.specs.declared.oracle.State.{State}
use Rattle.second.specs.declared.oracle.Plain.{Plain}
use Rattle.second.specs.declared.tables.SmallModels.{SmallModels}

-- a set of states below n is a number: the states are its bits
abbrev pub row : ℕ → ℕ → List ℕ
row n bits = filter (λ t. bits / 2 ^ t % 2 == 1) (range_with_len 0 n)

-- so is a state of a total model of n states: its label is the lowest bit, and the others are its row, which is not empty
abbrev pub state_of : ℕ → ℕ → ℕ × List ℕ
state_of n number = (number % 2, row n (number / 2))

-- every state of a total model of n states
unfoldable pub states_of : ℕ → List (ℕ × List ℕ)
states_of n = map (state_of n) (range_with_len 2 (2 ^ (n + 1) - 2))

-- every total model of at least one state and fewer than `bound`
unfoldable pub totals_below : ℕ → List (List (ℕ × List ℕ))
totals_below zero = []
totals_below (suc zero) = []
totals_below (suc (suc n)) = totals_below (suc n) ++ lists_of (states_of (suc n)) (suc n)

-- what a state is, and a model
abbrev pub told : State → ℕ × List ℕ
told s = (s.label, s.moves.items)

abbrev pub model : Plain → List (ℕ × List ℕ)
model m = map told m.states.items

-- the states that a small model may have
abbrev pub possible : SmallModels → List (ℕ × List ℕ)
possible small = map told small.possible.items
