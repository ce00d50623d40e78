use Rattle.std.proofs.Common.{arith, lit≤}
use Rattle.std.proofs.lemmas.Bool.{ltb-true, ltb-false}
use Rattle.script_lang.specs.declared.table.CallName.TheVariants as name
use Rattle.script_text.proofs.CallLaws.{is_three, third_last, too_few, too_many, two_first}
use Rattle.script_text.proofs.call.three_numbers_call.Goals as goal
use Rattle.script_text.proofs.call.three_numbers_call.Goals.{in_default-via-then-tokens-lt3, in_default-via-else-tokens-lt3+else-tokens-lt4}

pub returns-in_default : goal.returns-in_default
returns-in_default c = λ x is. elim c.in_default.branch [
  | in_default-via-then-tokens-lt3 w ↦ too_few c.args.names.now (name.ThreeNumbers c.args.call) c.args.tokens.now x (ltb-true _ _ w.if-tokens-lt3-1.true) is
  | in_default-via-else-tokens-lt3+else-tokens-lt4 w ↦ too_many c.args.names.now (name.ThreeNumbers c.args.call) c.args.tokens.now x (omega (arith, ltb-false _ _ w.if-tokens-lt4-1.false)) is
]

pub returns-in_err-first : goal.returns-in_err-first
returns-in_err-first c =
    rw c.from_residual.ensures
    (λ x is.
    let both = two_first c.args.names.now (name.ThreeNumbers c.args.call) c.args.tokens.now _ x 3 tt (lit≤ tt) c.in-len3.len_at_least is in
    c.in_err-first.ensures both.0 both.1)

pub returns-in_err-third : goal.returns-in_err-third
returns-in_err-third c =
    rw c.from_residual-in_err-third.ensures
    (λ x is.
    let third = third_last c.args.names.now c.args.call c.args.tokens.now _ x c.in-len3.len_at_least is in
    c.in_err-third.ensures third.0 third.1)

pub returns : goal.returns
returns c =
    is_three c.args.names.now c.args.call c.args.tokens.now _ _ _ c.in-len3.len_at_least c.in-len3.len_below c.in_ok-first.ensures c.in_ok-third.ensures
