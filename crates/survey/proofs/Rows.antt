-- A row that is read move by move, and a table that is filled row by row.
use Rattle.std.proofs.Common.{◌≡◌, ℕ, zero, suc, ◌+◌, ◌-◌, ◌++◌, ◌<◌, ◌≤◌, ◌⊎◌, ◌↔◌, List, length, get_or, drop, replicate, sym, refl, ◌∙◌, subst, inl, inr, ⊎_elim, arith, below_more}
use Rattle.std.proofs.lemmas.Bool.{cases_eq, cases_lt}
use Rattle.std.proofs.lemmas.List.{get_or_past, get_or_append_left, get_or-append_right, get_or-drop}
use Rattle.std.proofs.ByRecursion.{All-get_or}
use Rattle.kripke.specs.Models.{Frame, SoundFrame, TotalRow, Lands, nowhere}
use Rattle.sets.specs.declared.Set.{Set}
use Rattle.sets.specs.Sets.{In, none}
use Rattle.sets.proofs.Bits.{none_in}
use Rattle.survey.specs.Gaps.{RowIs, Linked}

-- none of the first k moves of a row goes nowhere
abbrev pub Clear : List ℕ → ℕ → Type 0
Clear row k = (j : ℕ) → j < k → get_or row j nowhere ≡ nowhere → ⊥

-- x is the set of the targets of the first k moves of a row
abbrev pub Begun : List ℕ → ℕ → Set → Type 0
Begun row k x = (t : ℕ) → In x t ↔ ((j : ℕ) × (j < k) × (get_or row j nowhere ≡ t))

pub begun_more : (row : List ℕ) (k t : ℕ) (x y : Set) → get_or row k nowhere ≡ t → t < 128 → Begun row k x →
    ((j : ℕ) → In y j ↔ (In x j ⊎ ((j ≡ t) × (t < 128)))) → Begun row (k + 1) y
begun_more row k t x y e low inv added u = (
  λ h. ⊎_elim
      (λ o. let p = (inv u).0 o in (p.0, omega (arith, p.1), p.2))
      (λ q. (k, omega arith, e ∙ sym q.0))
      ((added u).0 h),
  λ p. (added u).1 (⊎_elim
      (λ q. inr (sym p.2 ∙ subst (λ (i : ℕ). get_or row i nowhere ≡ t) (sym q) e, low))
      (λ n. inl ((inv u).1 (p.0, omega (arith, p.1), p.2)))
      (cases_eq p.0 k)),
)

pub clear_more : (row : List ℕ) (k t : ℕ) → get_or row k nowhere ≡ t → (t ≡ nowhere → ⊥) → Clear row k → Clear row (k + 1)
clear_more row k t e n inv = below_more (λ j. get_or row j nowhere ≡ nowhere → ⊥) k inv (λ q. n (sym e ∙ q))

-- a move that does not go nowhere goes to a state
pub lands_in : (F : Frame) → SoundFrame F → (s k t : ℕ) → k < length (F.row s) → get_or (F.row s) k nowhere ≡ t → (t ≡ nowhere → ⊥) → t < F.size
lands_in F sound s k t h e n =
    ⊎_elim (λ l. subst (λ (x : ℕ). x < F.size) e l) (λ q. absurd (n (sym e ∙ q)))
    (All-get_or (Lands F.size) (F.row s) k nowhere h (sound.lands s))

-- past its end a row has nowhere
not_past : (row : List ℕ) (j : ℕ) → (get_or row j nowhere ≡ nowhere → ⊥) → j < length row
not_past row j n = ⊎_elim (λ l. l) (λ past. absurd (n (get_or_past row j nowhere past))) (cases_lt j (length row))

-- with no move seen, no state is in the set
pub none_seen : (row : List ℕ) (k : ℕ) → Begun row k none → k ≡ 0
none_seen row k begun = ⊎_elim
    (λ some. absurd (none_in _ ((begun (get_or row 0 nowhere)).1 (0, some, refl))))
    (λ e. omega arith)
    (cases_lt 0 k)

-- a row that is read to its end
pub row_done : (F : Frame) → SoundFrame F → (s : ℕ) (x : Set) (k : ℕ) → s < F.size → length (F.row s) ≤ k → 0 < k →
    Clear (F.row s) k → Begun (F.row s) k x → TotalRow F.size (F.row s) × RowIs F s x
row_done F sound s x k h past some clear begun =
    let inside = λ (j : ℕ) (l : j < k). not_past (F.row s) j (clear j l) in (
      record { some = omega (arith, inside 0 some); lands = λ j l. lands_in F sound s j (get_or (F.row s) j nowhere) l refl (clear j (omega arith)) },
      λ t. (
        λ i. let p = (begun t).0 i in
            let l : p.0 < length (F.row s) = inside p.0 p.1 in
            (p.0, h, lands_in F sound s p.0 t l p.2 (λ q. clear p.0 p.1 (p.2 ∙ q)), l, p.2),
        λ mv. (begun t).1 (mv.0, omega (arith, mv.3), mv.4),
      ),
    )

-- a table of empty sets
none-at : (n s : ℕ) → get_or (replicate n none) s none ≡ none
none-at zero s = refl
none-at (suc n) zero = refl
none-at (suc n) (suc s) = none-at n s

-- the rows of all states, in a table that has nothing behind them
pub linked_front : (F : Frame) (xs : List Set) (n s : ℕ) → length xs ≡ n → s ≡ F.size → n ≡ F.size → ((j : ℕ) → j < s → RowIs F j (get_or xs j none)) →
    Linked F (xs ++ drop n (replicate 128 none))
linked_front F xs n s long same all each = record {
  states = λ j l. subst (λ (y : Set). RowIs F j y) (sym (get_or_append_left xs _ none j (omega arith))) (each j (omega arith));
  others = λ j l. get_or-append_right xs _ n j none long (omega arith) ∙ get_or-drop n (replicate 128 none) (j - n) none ∙ none-at 128 (n + (j - n));
}
