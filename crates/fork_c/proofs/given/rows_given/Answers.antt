use Rattle.std.proofs.Common.{ℕ, ◌≤◌, ◌==◌, ◌&&◌, length, ap, sym, subst, ◌∙◌}
use Rattle.std.proofs.lemmas.List.{drop_more}
use Rattle.fork_c.proofs.Parts.{all_given, given_more, left_over, parts_fit, parts_missing}
use Rattle.fork_c.proofs.given.rows_given.Goals as goal

pub loop-row-preserved : goal.loop-row-preserved
loop-row-preserved c =
    given_more _ _ _ _ c.loop-row.given.items c.loop-row.names_left.now c.loop-row.data_left.now (sym c.has_parts.ensures ∙ c.if-not-has_parts.false)
    (drop_more c.args.rows.now c.loop-row.row-index _ c.loop-row-test.true) c.loop-row.invariant
    c.push.new.self.items c.in_ok-row_given.field-0 c.split_at.result.0.now c.split_at-in-loop-row.result.0.now c.split_at.result.1.now c.split_at-in-loop-row.result.1.now
    c.in_ok-push.ensures.items c.in_ok-row_given.ensures c.split_at.ensures.front c.split_at-in-loop-row.ensures.front c.split_at.ensures.back c.split_at-in-loop-row.ensures.back

pub returns : goal.returns
returns c =
    all_given _ c.args.rows.now c.loop-row.row-index c.loop-row.given.items c.new.result c.loop-row.names_left.now c.loop-row.data_left.now c.loop-row-test.false c.loop-row.invariant
    (sym c.is_empty.ensures ∙ c.if-not-is_empty.false) (sym c.is_empty-2.ensures ∙ c.if-not-is_empty-2.false) c.new.ensures

pub returns-then-not-is_empty : goal.returns-then-not-is_empty
returns-then-not-is_empty c =
    left_over _ c.args.rows.now c.loop-row.row-index c.loop-row.given.items c.loop-row.names_left.now c.loop-row.data_left.now c.loop-row-test.false c.loop-row.invariant
    (ap (λ a. a && (length c.loop-row.data_left.now == 0)) (sym c.is_empty.ensures ∙ c.if-not-is_empty.true))

pub returns-then-not-is_empty-2 : goal.returns-then-not-is_empty-2
returns-then-not-is_empty-2 c =
    left_over _ c.args.rows.now c.loop-row.row-index c.loop-row.given.items c.loop-row.names_left.now c.loop-row.data_left.now c.loop-row-test.false c.loop-row.invariant
    (ap (λ a. a && (length c.loop-row.data_left.now == 0)) (sym c.is_empty.ensures ∙ c.if-not-is_empty.false) ∙ (sym c.is_empty-2.ensures ∙ c.if-not-is_empty-2.true))

pub returns-then-not-has_parts : goal.returns-then-not-has_parts
returns-then-not-has_parts c =
    parts_missing _ _ _ _ c.loop-row.given.items c.loop-row.names_left.now c.loop-row.data_left.now (sym c.has_parts.ensures ∙ c.if-not-has_parts.true) (drop_more c.args.rows.now c.loop-row.row-index _ c.loop-row-test.true) c.loop-row.invariant

pub row_given-requires : goal.row_given-requires
row_given-requires c = subst (λ (n : ℕ). n ≤ 255) (sym c.split_at.ensures.front_len) (parts_fit _ _ _ c.loop-row.names_left.now c.loop-row.data_left.now (drop_more c.args.rows.now c.loop-row.row-index _ c.loop-row-test.true) (sym c.has_parts.ensures ∙ c.if-not-has_parts.false)).0

pub split_at-requires : goal.split_at-requires
split_at-requires c = (parts_fit _ _ _ c.loop-row.names_left.now c.loop-row.data_left.now (drop_more c.args.rows.now c.loop-row.row-index _ c.loop-row-test.true) (sym c.has_parts.ensures ∙ c.if-not-has_parts.false)).1

pub split_at-requires-in-loop-row : goal.split_at-requires-in-loop-row
split_at-requires-in-loop-row c = (parts_fit _ _ _ c.loop-row.names_left.now c.loop-row.data_left.now (drop_more c.args.rows.now c.loop-row.row-index _ c.loop-row-test.true) (sym c.has_parts.ensures ∙ c.if-not-has_parts.false)).2
