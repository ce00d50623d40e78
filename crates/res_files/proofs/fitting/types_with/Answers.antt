use Rattle.std.proofs.Common.{ℕ, ◌+◌, sym, ap, ◌∙◌}
use Rattle.res_files.proofs.Room.{one_type_more, same_types}
use Rattle.res_files.proofs.fitting.types_with.Goals as goal

pub returns-then-count_of_type-eq0-clause-types : goal.returns-then-count_of_type-eq0-clause-types
returns-then-count_of_type-eq0-clause-types c = λ r mine.
    ap (λ (n : ℕ). n + 1) c.count_types-types.ensures.types ∙ one_type_more c.args.kind r c.args.rows.now mine (sym c.count_of_type.ensures ∙ c.if-count_of_type-eq0.true)

pub returns-else-count_of_type-eq0-clause-types : goal.returns-else-count_of_type-eq0-clause-types
returns-else-count_of_type-eq0-clause-types c = λ r mine.
    c.count_types-types.ensures.types ∙ same_types c.args.kind r c.args.rows.now mine (λ none. c.if-count_of_type-eq0.false (c.count_of_type.ensures ∙ none))
