use Rattle.std.proofs.Common.{arith, lit≤}
use Rattle.std.proofs.lemmas.Bool.{ltb-true, ltb-false}
use Rattle.script_lang.specs.declared.table.CallName.TheVariants as name
use Rattle.script_text.proofs.CallLaws.{is_two, too_few, too_many, two_first}
use Rattle.script_text.proofs.call.two_numbers_call.Goals as goal
use Rattle.script_text.proofs.call.two_numbers_call.Goals.{in_default-via-then-tokens-lt2, in_default-via-else-tokens-lt2+else-tokens-lt3}

pub returns-in_default : goal.returns-in_default
returns-in_default c = λ x is. elim c.in_default.branch [
  | in_default-via-then-tokens-lt2 w ↦ too_few c.args.names.now (name.TwoNumbers c.args.call) c.args.tokens.now x (ltb-true _ _ w.if-tokens-lt2-1.true) is
  | in_default-via-else-tokens-lt2+else-tokens-lt3 w ↦ too_many c.args.names.now (name.TwoNumbers c.args.call) c.args.tokens.now x (omega (arith, ltb-false _ _ w.if-tokens-lt3-1.false)) is
]

pub returns-in_err-first : goal.returns-in_err-first
returns-in_err-first c =
    rw c.from_residual.ensures
    (λ x is.
    let both = two_first c.args.names.now (name.TwoNumbers c.args.call) c.args.tokens.now _ x 2 tt (lit≤ tt) c.in-len2.len_at_least is in
    c.in_err-first.ensures both.0 both.1)

pub returns : goal.returns
returns c = is_two c.args.names.now c.args.call c.args.tokens.now _ _ c.in-len2.len_at_least c.in-len2.len_below c.in_ok-first.ensures
