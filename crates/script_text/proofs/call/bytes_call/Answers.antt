use Rattle.std.proofs.Common.{arith, lit≤}
use Rattle.std.proofs.lemmas.Bool.{ltb-true, ltb-false}
use Rattle.script_lang.specs.declared.table.CallName.TheVariants as name
use Rattle.script_text.proofs.CallLaws.{bytes_last, too_few, too_many, two_first}
use Rattle.script_text.proofs.call.bytes_call.Goals as goal
use Rattle.script_text.proofs.call.bytes_call.Goals.{in_default-via-then-tokens-lt3, in_default-via-else-tokens-lt3+else-tokens-lt4}

pub returns-in_default : goal.returns-in_default
returns-in_default c = λ x is. elim c.in_default.branch [
  | in_default-via-then-tokens-lt3 w ↦ too_few c.args.names.now (name.Bytes c.args.call) c.args.tokens.now x (ltb-true _ _ w.if-tokens-lt3-1.true) is
  | in_default-via-else-tokens-lt3+else-tokens-lt4 w ↦ too_many c.args.names.now (name.Bytes c.args.call) c.args.tokens.now x (omega (arith, ltb-false _ _ w.if-tokens-lt4-1.false)) is
]

pub returns-in_default-2 : goal.returns-in_default-2
returns-in_default-2 c = λ x is.
    let none = rw c.in_default-2.is at c.in_ok-bytes.ensures in
    let bytes = bytes_last c.args.names.now c.args.call c.args.tokens.now _ x c.in-len3.len_at_least is in
    none bytes.0 bytes.1

pub returns-in_default-two_numbers : goal.returns-in_default-two_numbers
returns-in_default-two_numbers c = λ x is.
    let both = two_first c.args.names.now (name.Bytes c.args.call) c.args.tokens.now _ x 3 tt (lit≤ tt) c.in-len3.len_at_least is in
    c.in_default-two_numbers.ensures both.0 both.1
