-- What a reduced model means, from its tables: the words of each state as bits, and the states that it moves to as a set.
use Rattle.std.specs.Prelude.{ℕ, ◌<◌, ◌≤◌, cond, List, [], length, nat_lt, slice_index}
use Rattle.std.proofs.Common.{inl, arith}
use Rattle.std.specs.List.{AllByRecursion}
use Rattle.std.proofs.lemmas.Bool.{cond_both, cond-false, le-ltb}
use Rattle.std.proofs.ByRecursion.{All-from_get_or}
use Rattle.kripke.specs.Words.{Within}
use Rattle.kripke.specs.Models.{Frame, Labelling, Kripke, Lands, WellFormed}
use Rattle.sets.specs.declared.Set.{Set}
use Rattle.sets.specs.Sets.{In, members}
use Rattle.sets.proofs.Members.{members_few, members_in}
use Rattle.merger.specs.Grids.{at, set_at}
use Rattle.merger.specs.Tables.{words_of}

abbrev pub filled_frame : ℕ → List Set → Frame
filled_frame n moves = record { size = n; row = λ s. cond (nat_lt s n) (members (set_at moves s)) [] }

abbrev pub filled_labels : ℕ → List ℕ → Labelling
filled_labels count facts = record { count = count; words = λ s. words_of (at facts s) }

abbrev pub filled : ℕ → ℕ → List ℕ → List Set → Kripke
filled n count facts moves = record { frame = filled_frame n moves; labels = filled_labels count facts }

-- it is well formed where the moves stay among the states and the words below their count
pub filled_formed : (n count : ℕ) (facts : List ℕ) (moves : List Set) → n ≤ 128 → count ≤ 64 → ((s : ℕ) → Within count (words_of (at facts s))) →
    ((s j : ℕ) → In (set_at moves s) j → j < n) → WellFormed (filled n count facts moves)
filled_formed n count facts moves few spoken within lands = record {
  frame = record {
    few_states = omega arith;
    few_moves = λ s. cond_both (nat_lt s n) (members (set_at moves s)) [] (λ row. length row ≤ 4096)
        (λ e. let b = members_few (set_at moves s) in omega arith) (λ e. omega arith);
    lands = λ s. cond_both (nat_lt s n) (members (set_at moves s)) [] (λ row. AllByRecursion (Lands n) row)
        (λ e. All-from_get_or (Lands n) (members (set_at moves s)) 0 (λ i l. inl (lands s (slice_index (members (set_at moves s)) i) (members_in (set_at moves s) i 0 l))))
        (λ e. tt);
    no_moves = λ s past. cond-false (nat_lt s n) (members (set_at moves s)) [] (le-ltb s n past);
  };
  labels = record { few_words = spoken; within = within };
}
