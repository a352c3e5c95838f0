-- One round on the tables, from what its parts do.
use Rattle.std.proofs.Common.{◌≡◌, ℕ, ◌<◌, ◌↔◌, List, sym, refl, ◌∙◌, subst, ⊎_elim, arith}
use Rattle.std.proofs.lemmas.Bool.{cases_eq}
use Rattle.sets.specs.declared.Set.{Set}
use Rattle.sets.specs.Sets.{In}
use Rattle.kripke.specs.Numbering.{Numbering}
use Rattle.merger.specs.declared.tables.Found.{Found}
use Rattle.merger.specs.declared.tables.Rounds.{Rounds}
use Rattle.merger.specs.declared.partition.Partition.{Partition}
use Rattle.merger.specs.declared.reach.Reach.{Reach}
use Rattle.merger.specs.Grids.{at, set_at, Several, Like}
use Rattle.merger.specs.Reaching.{On, Outlook, Outlooks, Narrowed}
use Rattle.merger.specs.Tables.{Bounded, Together}

pub numbering_as : (L L' : ℕ → ℕ → Type 0) (n m : ℕ) (f : ℕ → ℕ) → ((i j : ℕ) → i < n → j < n → L i j ↔ L' i j) → Numbering L n f m → Numbering L' n f m
numbering_as L L' n m f both N = record {
  ranked = N.ranked;
  same = λ i j h k. ((λ e. (both i j h k).0 ((N.same i j h k).0 e)), (λ e. (N.same i j h k).1 ((both i j h k).1 e)));
}

module _ (F : Found) (S : Rounds) (B : Bounded F S) (wanted : Set)
    (shares : (k : ℕ) → In wanted k ↔ ((c : ℕ) × (c < S.partition.classes) × Several (set_at S.partition.members c) × In (set_at S.partition.members c) k)) where
  abbrev P : Partition
  P = S.partition

  -- what is wanted are components
  pub wanted_low : (k : ℕ) → In wanted k → k < P.len
  wanted_low k h = let p = (shares k).0 h in ((P.groups.each p.0 k).0 p.3).0

  -- two components of one class are wanted
  pub wanted_two : (j k : ℕ) → j < P.len → k < P.len → (j ≡ k → ⊥) → at P.class j ≡ at P.class k → In wanted k
  wanted_two j k h l other e =
      let a = (P.groups.each (at P.class k) j).1 (h, e) in
      let b = (P.groups.each (at P.class k) k).1 (l, refl) in
      (shares k).1 (at P.class k, P.low k l, (j, k, a, b, other), b)

  -- and all of a class, where one is
  pub wanted_class : (j k : ℕ) → In wanted j → k < P.len → at P.class j ≡ at P.class k → In wanted k
  wanted_class j k h l e =
      let p = (shares j).0 h in
      let own = ((P.groups.each p.0 j).0 p.3).1 in
      (shares k).1 (p.0, p.1, p.2, (P.groups.each p.0 k).1 (l, sym e ∙ own))

  -- and all that a wanted one reaches
  pub wanted_reached : (k l : ℕ) → In wanted k → l < P.len → On S.reach k l → In wanted l
  wanted_reached k l h b o =
      let same = B.items in
      let low = wanted_low k h in
      wanted_class k l h b (B.near k l (omega arith) (omega arith) o)

  -- rows compared are outlooks compared
  pub like_together : (rows : List Set) → Outlooks rows S.reach F.moves P wanted →
      (j k : ℕ) → j < P.len → k < P.len → Like rows P.class j k ↔ Together F S j k
  like_together rows tells j k h l = ⊎_elim
      (λ e. (
        (λ p. (p.0, λ c. subst (λ i. Outlook S.reach F.moves P j c ↔ Outlook S.reach F.moves P i c) e (λ o. o, λ o. o))),
        (λ p. (p.0, λ c. subst (λ i. In (set_at rows j) c ↔ In (set_at rows i) c) e (λ o. o, λ o. o))),
      ))
      (λ other. (
        (λ p.
            let a = wanted_two k j l h (λ e. other (sym e)) (sym p.0) in
            let b = wanted_two j k h l other p.0 in
            (p.0, λ c. ((λ o. (tells k b c).0 ((p.1 c).0 ((tells j a c).1 o))), (λ o. (tells j a c).0 ((p.1 c).1 ((tells k b c).1 o)))))),
        (λ p.
            let a = wanted_two k j l h (λ e. other (sym e)) (sym p.0) in
            let b = wanted_two j k h l other p.0 in
            (p.0, λ c. ((λ o. (tells k b c).1 ((p.1 c).0 ((tells j a c).0 o))), (λ o. (tells j a c).1 ((p.1 c).1 ((tells k b c).0 o)))))),
      ))
      (cases_eq j k)

  -- what is cut from the reach are the pairs that were parted
  pub cut_parted : (reach' : Reach) (P' : Partition) → P'.len ≡ P.len → Narrowed S.reach reach' P' →
      (k l : ℕ) → k < F.components → l < F.components → On reach' k l ↔ (On S.reach k l × (at P'.class k ≡ at P'.class l))
  cut_parted reach' P' len N k l h b =
      let same = B.items in
      let n = N k l (omega arith) (omega arith) in
      ((λ o. let p = n.0 o in (p.0, sym p.1)), (λ p. n.1 (p.0, sym p.1)))
