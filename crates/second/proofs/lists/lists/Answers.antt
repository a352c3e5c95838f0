use Rattle.std.proofs.Common.{◌≡◌, ◌<◌, ◌≤◌, ◌^◌, [], length, get_or, take, sym, rules}
use Rattle.std.specs.List.{AllZip}
use Rattle.std.proofs.lemmas.List.{take_more, take_all}
use Rattle.std.proofs.lemmas.Slice.Zip.{all_zipped_more}
use Rattle.second.specs.Lists.{lists_of}
use Rattle.second.proofs.Listing.{length-lists_of}
use Rattle.second.proofs.lists.lists.Goals as goal

pub loop-number-init : goal.loop-number-init
loop-number-init g c = rw c.new-all.ensures.items tt

pub loop-number-preserved : goal.loop-number-preserved
loop-number-preserved g c =
    let all = lists_of c.args.alphabet.now c.args.len in
    let count : c.in_ok-count.count ≡ length c.args.alphabet.now ^ c.args.len = search rules in
    let more : c.loop-number.number < length all = rw (length-lists_of c.args.alphabet.now c.args.len, sym count) c.loop-number-test.true in
    rw (c.in_ok-push.ensures.items, take_more all c.loop-number.number [] more)
    (all_zipped_more (λ list made. AllZip g.T.Clone.is_clone list made.items) (take c.loop-number.number all) c.loop-number.all.items
    (get_or all c.loop-number.number []) c.in_ok-list_of_len.field-0 c.loop-number.invariant c.in_ok-list_of_len.ensures)

pub returns : goal.returns
returns g c =
    let all = lists_of c.args.alphabet.now c.args.len in
    let count : c.in_ok-count.count ≡ length c.args.alphabet.now ^ c.args.len = search rules in
    let whole : length all ≤ c.loop-number.number = rw (length-lists_of c.args.alphabet.now c.args.len, sym count) c.loop-number-test.false in
    rw (sym (take_all c.loop-number.number all whole)) c.loop-number.invariant
