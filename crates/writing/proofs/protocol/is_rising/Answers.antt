use Rattle.std.proofs.Common.{ltb, rules}
use Rattle.std.proofs.lemmas.List.Sorted.{answers_always}
use Rattle.writing.proofs.Risings.{rising_answer}
use Rattle.writing.proofs.protocol.is_rising.Goals as goal

pub returns-then-is_none_or : goal.returns-then-is_none_or
returns-then-is_none_or c =
    rising_answer _ c.args.targets.now _ (λ some. search rules) (c.is_sorted_by.ensures.cases (λ a b. ltb a b) (answers_always _ _ _ (λ f a r g called. search rules)))
