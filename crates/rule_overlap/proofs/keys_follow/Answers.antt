-- `keys_follow` compares each key with the next one, and the last one with the next tile. Assumes nothing.
use Rattle.laws.proofs.Prelude.{rules, ◌+◌, ◌/◌, ◌%◌, leb}
use Rattle.std.proofs.Common.{tests}
use Rattle.std.proofs.lemmas.List.Sorted.{answers_always}
use Rattle.rule_overlap.proofs.Testing.{follow_closes, follow_fails}
use Rattle.rule_overlap.proofs.keys_follow.Goals as goal

pub returns-then-is_sorted_by : goal.returns-then-is_sorted_by
returns-then-is_sorted_by c =
    follow_closes _ _ _ (c.is_sorted_by.ensures.cases (λ a b. leb (a / 16 + a % 16) (b / 16)) (answers_always _ _ _ (λ f a r q k. search (rules, tests)))) c.if-is_sorted_by.true _ _ c.end_of.ensures c.begin_of.ensures

pub returns-else-is_sorted_by : goal.returns-else-is_sorted_by
returns-else-is_sorted_by c =
    follow_fails _ _ _ (c.is_sorted_by.ensures.cases (λ a b. leb (a / 16 + a % 16) (b / 16)) (answers_always _ _ _ (λ f a r q k. search (rules, tests)))) c.if-is_sorted_by.false
