-- Laws of where moves lead, and of entries of a list.
use Rattle.std.proofs.Common.{ℕ, ◌<◌, ◌++◌, ◌⊎◌, ◌↔◌, List, [], ◌∷◌, length, inl, inr, ⊎_elim, arith}
use Rattle.sets.specs.Sets.{In}
use Rattle.sets.specs.declared.Set.{Set}
use Rattle.components.specs.Reach.{Reach, Leads, stop, go}
use Rattle.components.specs.Rows.{Edge}
use Rattle.components.specs.Search.{Any, On, Way}
use Rattle.components.specs.declared.marks.Walk.{Walk}

pub join : {E : ℕ → ℕ → Type 0} {u t : ℕ} {s : ℕ} → Reach E u s → Reach E t u → Reach E t s
join stop q = q
join (go e p) q = go e (join p q)

-- what moves keep true holds wherever they lead
pub along : {E : ℕ → ℕ → Type 0} (D : ℕ → Type 0) → ((a b : ℕ) → E a b → D a → D b) → {t : ℕ} {s : ℕ} → Reach E t s → D s → D t
along D keep stop d = d
along D keep (go e p) d = along D keep p (keep _ _ e d)

pub any_some : {X : Type 0} (P : X → Type 0) (xs : List X) → Any P xs → 0 < length xs
any_some P [] a = absurd a
any_some P (x ∷ xs) a = omega arith

-- an entry of two lists is one of the first or one of the second
pub any_parts : {X : Type 0} (P : X → Type 0) (xs ys : List X) → Any P (xs ++ ys) ↔ (Any P xs ⊎ Any P ys)
any_parts P [] ys = (inr, ⊎_elim (λ a. absurd a) (λ a. a))
any_parts P (x ∷ xs) ys = (
  ⊎_elim (λ p. inl (inl p)) (λ a. ⊎_elim (λ b. inl (inr b)) inr ((any_parts P xs ys).0 a)),
  ⊎_elim (⊎_elim inl (λ a. inr ((any_parts P xs ys).1 (inl a)))) (λ b. inr ((any_parts P xs ys).1 (inr b))),
)

-- each state on the way leads where the newest stretch moves to
pub goes : (rows : List Set) (w : Walk) (ws : List Walk) → Way rows (w ∷ ws) → ((s : ℕ) → In w.states s → s < length rows) →
    (t : ℕ) → In w.moves t → t < length rows → (s : ℕ) → On (w ∷ ws) s → Leads (Edge rows) s t
goes rows w ws W low t m l s o =
    let a = (W.0.moves t).0 m in
    join (⊎_elim (λ p. W.0.joined s a.0 p a.1) (λ b. W.2 s a.0 b a.1) o) (go (low a.0 a.1, l, a.2) stop)
