-- Calls made one after the other.
use Rattle.std.proofs.Common.{◌≡◌, ℕ, zero, suc, ◌+◌, ◌-◌, ◌<◌, ◌≤◌, Bool, ◌⊎◌, List, [], ◌∷◌, ◌++◌, length, get_or, take, set, Ok, Err, Result, sym, refl, ap, ◌∙◌, subst, inl, inr, ⊎_elim, arith}
use Rattle.std.specs.Prelude.{MatchResult, IsOkAnd}
use Rattle.std.specs.Result.{result_and}
use Rattle.std.proofs.lemmas.Bool.{cases_eq}
use Rattle.std.proofs.lemmas.List.{take_more, get_or-set_same, get_or-set_other, length-set}
use Rattle.kripke.specs.Models.{Kripke, WellFormed}
use Rattle.kripke.specs.Relation.{Settles}
use Rattle.kripke.proofs.Settling.{classes}
use Rattle.merger.specs.declared.analysis.Analysis.{Analysis}
use Rattle.merger.specs.declared.answers.Refusal.{Refusal}
use Rattle.merger.specs.declared.answers.Made.{Made}
use Rattle.merger.specs.declared.answers.Ran.{Ran}
use Rattle.merger.specs.declared.lists.Call.{Call}
use Rattle.merger.specs.declared.lists.Call.TheVariants.{Round, Run, Class, Together, Reduced}
use Rattle.merger.specs.declared.lists.Answer.{Answer}
use Rattle.merger.specs.declared.lists.Answer.TheVariants.{Made as WasMade, Ran as HasRun, Class as InClass, Together as AreTogether, Filled}
use Rattle.merger.specs.declared.reduced.Reduced.{Reduced as ReducedModel}
use Rattle.merger.specs.Promise.{Classes, Promise}
use Rattle.merger.specs.Reducing.{meaning, Fills}
use Rattle.merger.specs.Tells.{ClassTells, ReducedTells}
use Rattle.merger.specs.Calls.{Analysed, Continues, RoundAnswer, RunAnswer, ClassAnswer, TogetherAnswer, ReducedAnswer}
use Rattle.merger.specs.Runs.{Answered, answer_of, asks, asked, CallTells, CallAnswer, call_at, rounds_before, SettledBefore, Due, Classed, Performed}
use Rattle.kripke.proofs.Claims.{settled_once}
use Rattle.merger.proofs.Promising.{promise}
use Rattle.merger.proofs.Calling.{promises, continues_none}

-- a result whose answer is put into its form
pub answer_is : {T : Type 0} (form : T → Answer) (w : Result T Refusal) (answer : Answered) →
    MatchResult w (λ x. IsOkAnd answer (λ y. y ≡ form x)) (λ e. answer ≡ Err e) → answer ≡ answer_of form w
answer_is form (Ok x) (Ok y) h = ap Ok h
answer_is form (Ok x) (Err e) h = absurd h
answer_is form (Err e) answer h = h

-- the same of a call that answers nothing but that the model is filled
pub filled_is : (w : Result (Unit {0}) Refusal) (answer : Answered) → answer ≡ result_and w (Ok Filled) → answer ≡ answer_of (λ _. Filled) w
filled_is (Ok x) answer h = h
filled_is (Err e) answer h = h

round_apart : Round ≡ Reduced → ⊥
round_apart e = let z : ◌≡◌ {A = ℕ} 0 1 = cc in omega arith

run_apart : (n : ℕ) → Run n ≡ Reduced → ⊥
run_apart n e = let z : ◌≡◌ {A = ℕ} 0 1 = cc in omega arith

class_apart : (s : ℕ) → Class s ≡ Reduced → ⊥
class_apart s e = let z : ◌≡◌ {A = ℕ} 0 1 = cc in omega arith

together_apart : (s t : ℕ) → Together s t ≡ Reduced → ⊥
together_apart s t e = let z : ◌≡◌ {A = ℕ} 0 1 = cc in omega arith

-- a call that leaves the model to fill
leaving : (a b : Analysis) (x : ReducedModel) (k : Call) (answer : Answered) → (k ≡ Reduced → ⊥) → Continues (asks k) a b →
    ((M : Kripke) (r : ℕ) → Analysed M r a → CallTells M r k answer) → CallAnswer a b x x k answer
leaving a b x k answer apart more tells = record {
  continues = more;
  told = tells;
  fills = λ M r B i. absurd (apart i);
  keeps = λ M r B n. refl;
}

module _ (a b : Analysis) (x : ReducedModel) where
  pub call_round : (w : Result Made Refusal) (answer : Answered) → answer ≡ answer_of WasMade w → RoundAnswer a b w → CallAnswer a b x x Round answer
  call_round w answer e A = leaving a b x Round answer round_apart A.continues (λ M r B. (w, e, A.told M r B))

  pub call_run : (budget : ℕ) (w : Result Ran Refusal) (answer : Answered) → answer ≡ answer_of HasRun w → RunAnswer a b budget w → CallAnswer a b x x (Run budget) answer
  call_run budget w answer e A = leaving a b x (Run budget) answer (run_apart budget) A.continues (λ M r B. (w, e, A.told M r B))

module _ (a : Analysis) (x : ReducedModel) where
  pub call_class : (s : ℕ) (w : Result ℕ Refusal) (answer : Answered) → answer ≡ answer_of InClass w → ClassAnswer a s w → CallAnswer a a x x (Class s) answer
  call_class s w answer e A = leaving a a x (Class s) answer (class_apart s) (continues_none a) (λ M r B. (w, e, A.told M r B))

  pub call_together : (s t : ℕ) (w : Result Bool Refusal) (answer : Answered) → answer ≡ answer_of AreTogether w → TogetherAnswer a s t w → CallAnswer a a x x (Together s t) answer
  call_together s t w answer e A = leaving a a x (Together s t) answer (together_apart s t) (continues_none a) (λ M r B. (w, e, A.told M r B))

reduced_told : (M : Kripke) (r : ℕ) (x y : ReducedModel) (w : Result (Unit {0}) Refusal) → ReducedTells M r x y w → CallTells M r Reduced (answer_of (λ _. Filled) w)
reduced_told M r x y (Ok u) T = ((λ z. refl), λ n. (T.going n).0)
reduced_told M r x y (Err e) T = ((λ z. absurd (T.settled z)), λ n. (T.going n).0)

reduced_fills : (M : Kripke) (r : ℕ) (x y : ReducedModel) (w : Result (Unit {0}) Refusal) → ReducedTells M r x y w → Settles M r → Fills M r (meaning y)
reduced_fills M r x y (Ok u) T z = T.settled z
reduced_fills M r x y (Err e) T z = absurd (T.settled z)

pub call_reduced : (a : Analysis) (x y : ReducedModel) (w : Result (Unit {0}) Refusal) (answer : Answered) → answer ≡ answer_of (λ _. Filled) w → ReducedAnswer a x y w →
    CallAnswer a a x y Reduced answer
call_reduced a x y w answer e A = record {
  continues = continues_none a;
  told = λ M r B. subst (CallTells M r Reduced) (sym e) (reduced_told M r x y w (A.told M r B));
  fills = λ M r B i z. reduced_fills M r x y w (A.told M r B) z;
  keeps = λ M r B n. ((A.told M r B).going (λ z. n refl z)).1;
}

is_reduced : (k : Call) → (k ≡ Reduced) ⊎ (k ≡ Reduced → ⊥)
is_reduced Round = inr round_apart
is_reduced (Run n) = inr (run_apart n)
is_reduced (Class s) = inr (class_apart s)
is_reduced (Together s t) = inr (together_apart s t)
is_reduced Reduced = inl refl

asked_push : (xs : List Call) (y : Call) → asked (xs ++ y ∷ []) ≡ asked xs + asks y
asked_push [] y = omega arith
asked_push (x ∷ xs) y = let i = asked_push xs y in omega arith

-- one call more asks for its rounds more
asked_more : (calls : List Call) (i : ℕ) → i < length calls → asked (take (i + 1) calls) ≡ asked (take i calls) + asks (call_at calls i)
asked_more calls i h = ap asked (take_more calls i Round h) ∙ asked_push (take i calls) (call_at calls i)

-- an earlier call is made after no more rounds
asked_later : (calls : List Call) (j d : ℕ) → j + d ≤ length calls → asked (take j calls) ≤ asked (take (j + d) calls)
asked_later calls j zero h = let e : j + 0 ≡ j = omega arith in subst (λ k. asked (take j calls) ≤ asked (take k calls)) (sym e) (omega arith)
asked_later calls j (suc d) h =
    let up = asked_later calls j d (omega arith) in
    let more = asked_more calls (j + d) (omega arith) in
    let e : j + d + 1 ≡ j + suc d = omega arith in
    subst (λ k. asked (take j calls) ≤ asked (take k calls)) e (omega arith)

asked_up : (calls : List Call) (j i : ℕ) → j ≤ i → i ≤ length calls → asked (take j calls) ≤ asked (take i calls)
asked_up calls j i l h =
    let e : j + (i - j) ≡ i = omega arith in
    subst (λ k. asked (take j calls) ≤ asked (take k calls)) e (asked_later calls j (i - j) (omega arith))

-- the calls before i are made
pub record Sofar (M : Kripke) (calls : List Call) (answers answers' : List Answered) (z : ℕ) (b : Analysis) (x y : ReducedModel) (i : ℕ) : Type 0 where
  pub stands : Analysed M (rounds_before calls z i) b
  pub answered : (j : ℕ) (d : Answered) → j < i → j < length answers → CallTells M (rounds_before calls z j) (call_at calls j) (get_or answers' j d)
  pub others : (j : ℕ) (d : Answered) → i ≤ j → get_or answers' j d ≡ get_or answers j d
  pub room : length answers' ≡ length answers
  pub filled : (j : ℕ) → j < i → Due calls z j → Fills M z (meaning y)
  pub left : ((j : ℕ) → j < i → Due calls z j → ⊥) → y ≡ x

module _ (M : Kripke) (calls : List Call) (answers : List Answered) (z : ℕ) (S : Settles M z) (x : ReducedModel) where
  pub sofar_none : (b : Analysis) → Analysed M 0 b → Sofar M calls answers answers z b x x 0
  sofar_none b A = record {
    stands = subst (λ q. Analysed M q b) (omega arith) A;
    answered = λ j d h. absurd (omega arith);
    others = λ j d h. refl;
    room = refl;
    filled = λ j h. absurd (omega arith);
    left = λ n. refl;
  }

  module _ (answers' : List Answered) (b b' : Analysis) (y y' : ReducedModel) (i : ℕ) (h : i < length calls) (P : Sofar M calls answers answers' z b x y i)
      (answer : Answered) (C : CallAnswer b b' y y' (call_at calls i) answer) where
    -- the settling round is made just if it was asked for
    settled-now : SettledBefore calls z i → Settles M (rounds_before calls z i)
    settled-now l = let e : z ≡ rounds_before calls z i = omega arith in subst (Settles M) e S

    now-settled : Settles M (rounds_before calls z i) → SettledBefore calls z i
    now-settled s = let e = settled_once M (rounds_before calls z i) z s S in omega arith

    next : Analysed M (rounds_before calls z (i + 1)) b'
    next =
        let p = C.continues M (rounds_before calls z i) P.stands in
        let e = settled_once M p.1.0 z p.1.1 S in
        let k = asked_more calls i h in
        let same : p.0 ≡ rounds_before calls z (i + 1) = omega (arith, p.1.2) in
        subst (λ r. Analysed M r b') same p.2

    -- the model to fill: where call i is due it is filled, and else as it was
    due-now : Due calls z i → Fills M z (meaning y')
    due-now D =
        let f = C.fills M (rounds_before calls z i) P.stands D.call (settled-now D.settled) in
        let e : rounds_before calls z i ≡ z = let l = D.settled in omega arith in
        subst (λ r. Fills M r (meaning y')) e f

    due-before : (j : ℕ) → j < i → Due calls z j → Fills M z (meaning y')
    due-before j l D = ⊎_elim
        (λ e.
        let up = asked_up calls j i (omega arith) (omega arith) in
        due-now (record { within = h; call = e; settled = let s = D.settled in omega arith }))
        (λ n. subst (λ w. Fills M z (meaning w)) (sym (C.keeps M (rounds_before calls z i) P.stands (λ e _. n e))) (P.filled j l D))
        (is_reduced (call_at calls i))

    filled : (j : ℕ) → j < i + 1 → Due calls z j → Fills M z (meaning y')
    filled j l D = ⊎_elim (λ e. due-now (subst (Due calls z) e D)) (λ n. due-before j (omega arith) D) (cases_eq j i)

    left : ((j : ℕ) → j < i + 1 → Due calls z j → ⊥) → y' ≡ x
    left n =
        C.keeps M (rounds_before calls z i) P.stands (λ e s. n i (omega arith) (record { within = h; call = e; settled = now-settled s }))
        ∙ P.left (λ j l. n j (omega arith))

    told-now : CallTells M (rounds_before calls z i) (call_at calls i) answer
    told-now = C.told M (rounds_before calls z i) P.stands

    pub sofar_put : i < length answers' → Sofar M calls answers (set answers' i answer) z b' x y' (i + 1)
    sofar_put room = record {
      stands = next;
      answered = λ j d l r. ⊎_elim
          (λ e. subst (λ j. CallTells M (rounds_before calls z j) (call_at calls j) (get_or (set answers' i answer) j d)) (sym e)
          (subst (λ w. CallTells M (rounds_before calls z i) (call_at calls i) w) (sym (get_or-set_same answers' i answer d room)) told-now))
          (λ n. subst (λ w. CallTells M (rounds_before calls z j) (call_at calls j) w) (sym (get_or-set_other answers' i j answer d n)) (P.answered j d (omega arith) r))
          (cases_eq j i);
      others = λ j d l. get_or-set_other answers' i j answer d (omega arith) ∙ P.others j d (omega arith);
      room = length-set answers' i answer ∙ P.room;
      filled = filled;
      left = left;
    }

    pub sofar_past : length answers' ≤ i → Sofar M calls answers answers' z b' x y' (i + 1)
    sofar_past past = record {
      stands = next;
      answered = λ j d l r. let e = P.room in P.answered j d (omega arith) r;
      others = λ j d l. P.others j d (omega arith);
      room = P.room;
      filled = filled;
      left = left;
    }

-- what a call that asks for a class answers
class_ok : (M : Kripke) (r s c : ℕ) (w : Result ℕ Refusal) → s < M.frame.size → ClassTells M r s w → answer_of InClass w ≡ Ok (InClass c) →
    (f : ℕ → ℕ) (m : ℕ) → Classes M r f m → c ≡ f s
class_ok M r s c (Ok d) h T e f m N = let v = T.told h f m N in let i : d ≡ c = cc in sym i ∙ v
class_ok M r s c (Err x) h T e f m N = absurd (T.told h)

-- all calls are made
module _ (M : Kripke) (calls : List Call) (answers answers' : List Answered) (z : ℕ) (S : Settles M z) (b : Analysis) (x y : ReducedModel)
    (P : Sofar M calls answers answers' z b x y (length calls)) where
  formed : WellFormed M
  formed = P.stands.tabled.surveyed.formed

  kept : (r : ℕ) (f : ℕ → ℕ) (m : ℕ) → Classes M r f m → Promise M r f m
  kept r f m N = promise M formed P.stands.tabled.surveyed.admitted.1 r f m N

  value : (i s c : ℕ) → Classed M calls answers' i s c → (f : ℕ → ℕ) (m : ℕ) → Classes M (rounds_before calls z i) f m → c ≡ f s
  value i s c K f m N =
      let room = P.room in
      let T = subst (λ k. CallTells M (rounds_before calls z i) k (get_or answers' i (Ok Filled))) K.call (P.answered i (Ok Filled) K.within (let b = K.room in omega arith)) in
      class_ok M (rounds_before calls z i) s c T.0 K.state T.2 (sym T.1 ∙ K.answer (Ok Filled)) f m N

  -- two classes by one numbering
  both : (r i j s t c e : ℕ) → rounds_before calls z i ≡ r → rounds_before calls z j ≡ r → Classed M calls answers' i s c → Classed M calls answers' j t e →
      (f : ℕ → ℕ) (m : ℕ) → Classes M r f m → (c ≡ f s) × (e ≡ f t)
  both r i j s t c e p q K L f m N = (
    value i s c K f m (subst (λ n. Classes M n f m) (sym p) N),
    value j t e L f m (subst (λ n. Classes M n f m) (sym q) N),
  )

  pub performed : Performed M calls answers answers' b x y
  performed = record {
    last = z;
    settles = S;
    stands = P.stands;
    promises = promises M (rounds_before calls z (length calls)) b P.stands;
    answered = P.answered;
    others = P.others;
    room = P.room;
    exact = λ i j s t c e K L u v.
        let w = classes M formed z in
        let f : ℕ → ℕ = w.0 in
        let o = both z i j s t c e (omega arith) (omega arith) K L f w.1.0 w.1.1 in
        let a = (kept z f w.1.0 w.1.1).exact S s t K.state L.state in
        ((λ q. a.0 (sym o.0 ∙ q ∙ o.1)), (λ g. o.0 ∙ a.1 g ∙ sym o.1));
    told = λ i j s t c e K L same apart.
        let r : ℕ = rounds_before calls z i in
        let w = classes M formed r in
        let f : ℕ → ℕ = w.0 in
        let o = both r i j s t c e refl (sym same) K L f w.1.0 w.1.1 in
        (kept r f w.1.0 w.1.1).told s t K.state L.state (λ q. apart (o.0 ∙ q ∙ sym o.1));
    filled = λ i D. P.filled i D.within D;
    left = λ n. P.left (λ j l. n j);
  }
