use Rattle.std.proofs.Common.{ap, sym, ◌∙◌, ◌<◌, length, not, arith, bytes_eq}
use Rattle.std.proofs.lemmas.Bool.Decides.{nat_tests}
use Rattle.fork_bytes.specs.Rows.{Row}
use Rattle.fork_c.proofs.Grouped.{may_precede_others}
use Rattle.fork_c.proofs.given.may_precede.Goals as goal

pub returns-else-eq : goal.returns-else-eq
returns-else-eq c =
    let is_none = sym c.is_empty.ensures ∙ c.if-is_empty.false in let some : 0 < length c.args.rows.now = grind (arith, nat_tests) in
    ap not c.is_among.ensures
    ∙ may_precede_others c.args.kind c.args.rows.now c.index-rows-0.result some c.index-rows-0.is (ap (λ (row : Row). bytes_eq row.kind c.args.kind) c.index-rows-0.is ∙ (sym c.eq.ensures ∙ c.if-eq.false))
