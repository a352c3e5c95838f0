-- One number more of a file is read, and is right.
use Rattle.std.proofs.Common.{◌≡◌, ℕ, ◌+◌, ◌<◌, ◌≤◌, List, [], ◌∷◌, ◌++◌, length, take, sym, ap, ◌∙◌, inr, arith}
use Rattle.std.proofs.ByRecursion.{All-push}
use Rattle.std.proofs.lemmas.List.{append_assoc, flat_map_more, length-append, length_push, length-take-le, map_push}
use Rattle.kripke.specs.Reduced.{Rising}
use Rattle.models.specs.declared.facts.Facts.{Facts}
use Rattle.codec.specs.Numbers.{code, codes, counted}
use Rattle.codec.specs.Reading.{Stands}
use Rattle.modelfile.specs.Files.{bits_of, numbers, longest, RisingRow, Wide, targets_of}
use Rattle.modelfile.specs.FirstFault.{Spot, at_label, at_degree, at_target, before, Right, Reached, Fails, FirstFault}
use Rattle.modelfile.specs.Walks.{LabelsRead, RowsRead, TargetsRead}
use Rattle.modelfile.specs.declared.faults.FileFault.{FileFault}
use Rattle.modelfile.specs.declared.scan.Room.{Room}
use Rattle.modelfile.specs.declared.scan.Source.{Source}
use Rattle.modelfile.specs.declared.scan.Cursor.{Cursor}
use Rattle.modelfile.proofs.Rise.{lowest_more}

pub codes_push : (ns : List ℕ) (n : ℕ) → codes ns ++ code n ≡ codes (ns ++ (n ∷ []))
codes_push ns n = flat_map_more code [] ns n

-- one row more, as numbers and as targets
pub numbers_push : (labels : List Facts) (rows : List (List ℕ)) (row : List ℕ) → numbers labels rows ++ counted row ≡ numbers labels (rows ++ (row ∷ []))
numbers_push labels rows row = flat_map_more counted (length labels ∷ bits_of labels) rows row

pub targets_push : (rows : List (List ℕ)) (row : List ℕ) → targets_of rows ++ row ≡ targets_of (rows ++ (row ∷ []))
targets_push rows row = flat_map_more (λ (r : List ℕ). r) [] rows row

-- the next number stands behind those before it
module _ (t : Room) (file : List ℕ) where
  text-on : (s : Spot) (at n next : ℕ) → Reached t file s at → Stands file at n next → take next file ≡ codes (before s ++ (n ∷ []))
  text-on s at n next reached there = there.text ∙ (ap (λ bs. bs ++ code n) reached.text ∙ codes_push (before s) n)

  onward : (s q : Spot) (at n next : ℕ) → Reached t file s at → Stands file at n next → Right t q → before s ++ (n ∷ []) ≡ before q → Reached t file q next
  onward s q at n next reached there right e =
      record { inside = there.inside; right = right; text = text-on s at n next reached there ∙ ap codes e }

  -- nothing more is read, and what was read is seen otherwise
  turned : (s q : Spot) (at : ℕ) → Reached t file s at → Right t q → before s ≡ before q → Reached t file q at
  turned s q at reached right e = record { inside = reached.inside; right = right; text = reached.text ∙ ap codes e }

  pub stops : (s : Spot) (at : ℕ) (fault : FileFault) → length file ≤ longest → Reached t file s at → Fails t file s at fault → FirstFault t file fault
  stops s at fault short reached fails = inr (record { short = short; spot = s; at = at; reached = reached; fails = fails })

  -- the place of a spot is the length of what was read
  pub place_is : (s : Spot) (at : ℕ) → Reached t file s at → at ≡ length (codes (before s))
  place_is s at reached = let h = reached.inside in sym (length-take-le at file h) ∙ ap length reached.text

-- what a reader has read, one number on
module _ (f : Source) (r q : Cursor) where
  pub labels_more : (count facts : ℕ) → LabelsRead f r count → count < f.states → Stands f.file.now r.at facts q.at → q.targets ≡ r.targets → LabelsRead f q (count + 1)
  labels_more count facts read few there targets =
      let x : Facts = record { bits = facts } in
      let right = read.reached.right in
      let many = read.many in
      let long = length_push read.labels x in
      record {
        labels = read.labels ++ (x ∷ []);
        many = omega arith;
        none = targets ∙ read.none;
        reached = onward f.room f.file.now (at_label f.states read.labels) (at_label f.states (read.labels ++ (x ∷ []))) r.at facts q.at read.reached there
            (record { sized = right.sized; held = right.held; few = omega arith; wide = All-push Wide read.labels x right.wide there.small })
            (ap (λ ns. f.states ∷ ns) (sym (map_push (λ (y : Facts). y.bits) read.labels x)));
      }

  -- one target more is read
  pub targets_more : (count degree have low target : ℕ) → TargetsRead f r count degree have low → have < degree → Stands f.file.now r.at target q.at → target < f.states → low ≤ target → r.targets < f.room.targets → q.targets ≡ r.targets + 1 →
      TargetsRead f q count degree (have + 1) (target + 1)
  targets_more count degree have low target read more there below above room targets =
      let sized = read.sized in
      let counted' = read.counted in
      let given' = read.given in
      let right = read.reached.right in
      let ranged = right.ranged in
      let long = length_push read.targets target in
      let rises : Rising (read.targets ++ (target ∷ [])) = (read.lowest target).0 above in
      let is_state : target < length read.labels = omega arith in
      record {
        labels = read.labels;
        rows = read.rows;
        targets = read.targets ++ (target ∷ []);
        sized = omega arith;
        many = read.many;
        counted = omega arith;
        given = omega arith;
        lowest = lowest_more read.targets target rises;
        reached = onward f.room f.file.now (at_target read.labels read.rows degree read.targets) (at_target read.labels read.rows degree (read.targets ++ (target ∷ []))) r.at target q.at read.reached there
            (record {
              complete = right.complete;
              next = right.next;
              ranged = ranged;
              few = omega arith;
              rising = record { rises = rises; below = All-push (λ u. u < length read.labels) read.targets target right.rising.below is_state };
              held = omega arith;
            })
            (append_assoc (numbers read.labels read.rows) (degree ∷ read.targets) (target ∷ []));
      }

-- what a reader has read, seen otherwise
module _ (f : Source) (r : Cursor) where
  -- a whole row is read
  pub rows_more : (count degree have low : ℕ) → TargetsRead f r count degree have low → degree ≤ have → RowsRead f r (count + 1)
  rows_more count degree have low read all =
      let sized = read.sized in
      let many = read.many in
      let counted' = read.counted in
      let given' = read.given in
      let right = read.reached.right in
      let next = right.next in
      let few = right.few in
      let held = right.held in
      let long = length_push read.rows read.targets in
      let flat : length (targets_of (read.rows ++ (read.targets ∷ []))) ≡ length (targets_of read.rows) + length read.targets =
      ap length (sym (targets_push read.rows read.targets)) ∙ length-append (targets_of read.rows) read.targets in
      let whole : degree ≡ length read.targets = omega arith in
      record {
        labels = read.labels;
        rows = read.rows ++ (read.targets ∷ []);
        sized = sized;
        many = omega arith;
        counted = omega arith;
        reached = turned f.room f.file.now (at_target read.labels read.rows degree read.targets) (at_degree read.labels (read.rows ++ (read.targets ∷ []))) r.at read.reached
            (record {
              labelled = right.complete.labelled;
              few = omega arith;
              rising = All-push (RisingRow (length read.labels)) read.rows read.targets right.complete.rising right.rising;
              held = omega arith;
            })
            (ap (λ d. numbers read.labels read.rows ++ (d ∷ read.targets)) whole ∙ numbers_push read.labels read.rows read.targets);
      }
