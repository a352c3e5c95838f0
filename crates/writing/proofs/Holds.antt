-- What the buffer holds after each call of a writing.
use Rattle.std.proofs.Common.{◌≡◌, ℕ, ◌+◌, List, [], ◌∷◌, ◌++◌, length, take, sym, refl, ap, ◌∙◌, subst, zero-add, arith}
use Rattle.std.proofs.ByRecursion.{All-push}
use Rattle.std.proofs.lemmas.List.{append-nil, length_push, map_push}
use Rattle.models.specs.declared.facts.Facts.{Facts}
use Rattle.codec.specs.Numbers.{code, codes, counted}
use Rattle.codec.specs.Pieces.{placed}
use Rattle.codec.proofs.Joins.{joined-append}
use Rattle.codec.proofs.Places.{length-placed, take-placed}
use Rattle.modelfile.specs.Files.{bits_of, file_of, numbers, RisingRow, Wide}
use Rattle.modelfile.proofs.Walking.{codes_push, numbers_push}
use Rattle.writing.specs.Appends.{HasSpace}
use Rattle.writing.specs.Writings.{SetsHold, RowsHold, Begun, SetDone, RowDone}
use Rattle.writing.specs.declared.protocol.Rows.{Rows}
use Rattle.writing.specs.declared.protocol.Sets.{Sets}

-- a piece behind what the buffer begins with
module _ (before after piece front : List ℕ) (len : ℕ) (space : HasSpace before len piece) (text : after ≡ placed before len piece) where
  pub same_length : length after ≡ length before
  same_length = ap length text ∙ length-placed before piece len space.0

  pub front_on : take len before ≡ front → take (len + length piece) after ≡ front ++ piece
  front_on so_far = ap (take (len + length piece)) text ∙ (take-placed before piece len (omega (arith, space.0)) ∙ ap (λ bs. bs ++ piece) so_far)

pub begun_holds : (states : ℕ) (before after : List ℕ) (is : Sets) → Begun states before after is → SetsHold after is []
begun_holds states before after is done =
    let space = done.space in
    let same = same_length before after (code states) [] 0 space done.text in
    let on = front_on before after (code states) [] 0 space done.text refl in
    subst (λ s. SetsHold after s []) (sym done.state) (record {
      sized = done.sized;
      count = refl;
      few = omega arith;
      wide = tt;
      inside = omega (arith, space.0);
      short = omega (arith, space.1);
      text = ap (λ k. take k after) (sym (zero-add (length (code states)))) ∙ (on ∙ sym (append-nil (code states)));
    })

pub set_holds : (was is : Sets) (facts : Facts) (before after : List ℕ) → Wide facts → SetDone was facts before after is → (labels : List Facts) → SetsHold before was labels → SetsHold after is (labels ++ (facts ∷ []))
set_holds was is facts before after wide done labels holds =
    let space = done.space in
    let same = same_length before after (code facts.bits) [] was.sets.len space done.text in
    let on = front_on before after (code facts.bits) (codes (was.sets.states ∷ bits_of labels)) was.sets.len space done.text holds.text in
    let long = length_push labels facts in
    let count = holds.count in
    let more = done.more in
    subst (λ s. SetsHold after s (labels ++ (facts ∷ []))) (sym done.state) (record {
      sized = holds.sized;
      count = omega arith;
      few = omega arith;
      wide = All-push Wide labels facts holds.wide wide;
      inside = omega (arith, space.0);
      short = space.1;
      text = on ∙ (codes_push (was.sets.states ∷ bits_of labels) facts.bits ∙ ap (λ ns. codes (was.sets.states ∷ ns)) (sym (map_push (λ (x : Facts). x.bits) labels facts)));
    })

pub row_holds : (was is : Rows) (row before after : List ℕ) → RowDone was row before after is → (labels : List Facts) (rows : List (List ℕ)) → RowsHold before was labels rows → RowsHold after is labels (rows ++ (row ∷ []))
row_holds was is row before after done labels rows holds =
    let space = done.space in
    let same = same_length before after (codes (counted row)) [] was.rows.len space done.text in
    let on = front_on before after (codes (counted row)) (file_of labels rows) was.rows.len space done.text holds.text in
    let long = length_push rows row in
    let count = holds.count in
    let more = done.more in
    subst (λ w. RowsHold after w labels (rows ++ (row ∷ []))) (sym done.state) (record {
      sized = holds.sized;
      all = holds.all;
      count = omega arith;
      few = omega arith;
      wide = holds.wide;
      rising = All-push (RisingRow was.rows.states) rows row holds.rising done.rising;
      inside = omega (arith, space.0);
      short = space.1;
      text = on ∙ (sym (joined-append code (numbers labels rows) (counted row)) ∙ ap codes (numbers_push labels rows row));
    })
