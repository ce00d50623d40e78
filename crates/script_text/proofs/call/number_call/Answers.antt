use Rattle.std.proofs.Common.{arith}
use Rattle.std.proofs.lemmas.Bool.{ltb-true, ltb-false}
use Rattle.script_lang.specs.declared.table.CallName.TheVariants as name
use Rattle.script_text.proofs.CallLaws.{number_first, too_few, too_many}
use Rattle.script_text.proofs.call.number_call.Goals as goal
use Rattle.script_text.proofs.call.number_call.Goals.{in_default-via-then-tokens-lt1, in_default-via-else-tokens-lt1+else-tokens-lt2}

pub returns-in_default : goal.returns-in_default
returns-in_default c = λ x is. elim c.in_default.branch [
  | in_default-via-then-tokens-lt1 w ↦ too_few c.args.names.now (name.Number c.args.call) c.args.tokens.now x (ltb-true _ _ w.if-tokens-lt1-1.true) is
  | in_default-via-else-tokens-lt1+else-tokens-lt2 w ↦ too_many c.args.names.now (name.Number c.args.call) c.args.tokens.now x (omega (arith, ltb-false _ _ w.if-tokens-lt2-1.false)) is
]

pub returns-in_err-number_or_variable : goal.returns-in_err-number_or_variable
returns-in_err-number_or_variable c =
    rw c.from_residual.ensures
    (λ x is.
    let one = number_first c.args.names.now c.args.call c.args.tokens.now _ x c.in-len1.len_at_least is in
    c.in_err-number_or_variable.ensures one.0 one.1)
