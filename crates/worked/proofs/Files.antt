-- The worked cases of files, numbers and refusals.
use Rattle.std.proofs.Common.{◌≡◌, ℕ, zero, suc, ◌<◌, ◌≤◌, List, [], ◌∷◌, ◌++◌, length, refl, arith, lit<, lit≤}
use Rattle.codec.specs.Numbers.{code, Coded, meant}
use Rattle.codec.specs.declared.numbers.NumberFault.TheVariants.{NotFewestAt}
use Rattle.codec.proofs.Coding.{each_code_is_shortest}
use Rattle.kripke.specs.Reduced.{Rising}
use Rattle.modelfile.specs.Files.{RisingRow}
use Rattle.modelfile.specs.FirstFault.{FaultAtSpot, at_size}
use Rattle.modelfile.specs.declared.faults.FileFault.TheVariants.{InNumber}
use Rattle.survey.specs.Gaps.{Gaps, gap_cause}
use Rattle.survey.specs.declared.gaps.Gap.TheVariants.{EmptyRow}
use Rattle.worked.specs.Cases.{Denoted, wide, polls_listed, merged_listed, bare_listed, bare}

pub three_hundred : code 300 ≡ 0xAC ∷ 0x02 ∷ []
unfolding code
three_hundred = refl

pub one_two_seven : code 127 ≡ 0x7F ∷ []
unfolding code
one_two_seven = refl

-- a row of one target, and of two
one_rises : (a : ℕ) → Rising (a ∷ [])
one_rises a k l = absurd (omega arith)

two_rise : (a b : ℕ) → a < b → Rising (a ∷ b ∷ [])
two_rise a b h zero l = h
two_rise a b h (suc k) l = absurd (omega arith)

one : (n a : ℕ) → a < n → RisingRow n (a ∷ [])
one n a h = record { rises = one_rises a; below = (h, tt) }

two : (n a b : ℕ) → a < b → b < n → RisingRow n (a ∷ b ∷ [])
two n a b h l = record { rises = two_rise a b h; below = (omega arith, (l, tt)) }

pub polls_file : Denoted (5 ∷ 0 ∷ 0 ∷ 1 ∷ 0 ∷ 0 ∷ 1 ∷ 1 ∷ 1 ∷ 2 ∷ 1 ∷ 2 ∷ 1 ∷ 2 ∷ 2 ∷ 2 ∷ 4 ∷ []) polls_listed
unfolding polls_listed code
polls_file = record {
  short = lit≤ tt;
  valid = record {
    sized = (lit≤ tt, lit≤ tt);
    wide = (lit< tt, (lit< tt, (lit< tt, (lit< tt, (lit< tt, tt)))));
    each = refl;
    rising = (one 5 1 (lit< tt), (one 5 2 (lit< tt), (one 5 2 (lit< tt), (one 5 2 (lit< tt), (two 5 2 4 (lit< tt) (lit< tt), tt)))));
  };
  held = ((lit≤ tt, lit≤ tt), lit≤ tt);
  text = refl;
}

pub merged_file : Denoted (3 ∷ 0 ∷ 1 ∷ 0 ∷ 1 ∷ 1 ∷ 1 ∷ 1 ∷ 2 ∷ 1 ∷ 2 ∷ []) merged_listed
unfolding merged_listed code
merged_file = record {
  short = lit≤ tt;
  valid = record {
    sized = (lit≤ tt, lit≤ tt);
    wide = (lit< tt, (lit< tt, (lit< tt, tt)));
    each = refl;
    rising = (one 3 1 (lit< tt), (one 3 1 (lit< tt), (two 3 1 2 (lit< tt) (lit< tt), tt)));
  };
  held = ((lit≤ tt, lit≤ tt), lit≤ tt);
  text = refl;
}

pub bare_refused : Gaps bare.frame (EmptyRow 0) × (gap_cause (EmptyRow 0) ≡ 15)
unfolding bare_listed
bare_refused = (((lit< tt, lit≤ tt), lit< tt, (λ j l. absurd (omega arith)), refl), refl)

-- no number's code begins with 80 00
no_code : (n : ℕ) (cs rest : List ℕ) → Coded cs → meant cs ≡ n → ((ds : List ℕ) → Coded ds → meant ds ≡ n → length cs ≤ length ds) →
    128 ∷ 0 ∷ [] ≡ cs ++ rest → ⊥
no_code n [] rest coded means fewest e = coded
no_code n (b ∷ []) rest coded means fewest e =
    let head : 128 ≡ b = cc in
    omega arith
no_code n (b ∷ c ∷ []) rest coded means fewest e =
    let first : 128 ≡ b = cc in
    let second : 0 ≡ c = cc in
    let short = fewest (0 ∷ []) (lit< tt) (omega arith) in
    omega arith
no_code n (b ∷ c ∷ d ∷ ds) rest coded means fewest e =
    let none : ◌≡◌ {A = ℕ} 0 1 = cc in
    omega arith

pub not_fewest : FaultAtSpot wide (0x80 ∷ 0x00 ∷ []) (InNumber (NotFewestAt 0))
not_fewest = record {
  short = lit≤ tt;
  spot = at_size;
  at = 0;
  reached = record { inside = lit≤ tt; right = tt; text = refl };
  fails = (
    tt,
    (
      refl,
      (
        (λ h. omega (arith, h.1.0)),
        λ n rest small e.
            let s = each_code_is_shortest n in
            no_code n (code n) rest s.coded s.means s.fewest e,
      ),
    ),
  );
}
