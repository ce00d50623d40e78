use Rattle.std.proofs.Common.{arith, lit≤}
use Rattle.std.proofs.lemmas.Bool.{ltb-true, ltb-false}
use Rattle.script_lang.specs.declared.table.CallName.TheVariants as name
use Rattle.script_text.proofs.CallLaws.{count_last, is_move, too_few, too_many, two_first, two_next}
use Rattle.script_text.proofs.call.block_move.Goals as goal
use Rattle.script_text.proofs.call.block_move.Goals.{in_default-via-then-tokens-lt5, in_default-via-else-tokens-lt5+else-tokens-lt6}

pub returns-in_default : goal.returns-in_default
returns-in_default c = λ x is. elim c.in_default.branch [
  | in_default-via-then-tokens-lt5 w ↦ too_few c.args.names.now name.BlockMove c.args.tokens.now x (ltb-true _ _ w.if-tokens-lt5-1.true) is
  | in_default-via-else-tokens-lt5+else-tokens-lt6 w ↦ too_many c.args.names.now name.BlockMove c.args.tokens.now x (omega (arith, ltb-false _ _ w.if-tokens-lt6-1.false)) is
]

pub returns-in_err-count : goal.returns-in_err-count
returns-in_err-count c =
    rw c.from_residual-in_err-count.ensures
    (λ x is.
    let count = count_last c.args.names.now c.args.tokens.now _ x c.in-len5.len_at_least is in
    c.in_err-count.ensures count.0 count.1)

pub returns-in_err-from : goal.returns-in_err-from
returns-in_err-from c =
    rw c.from_residual.ensures
    (λ x is.
    let both = two_first c.args.names.now name.BlockMove c.args.tokens.now _ x 5 tt (lit≤ tt) c.in-len5.len_at_least is in
    c.in_err-from.ensures both.0 both.1)

pub returns-in_err-to : goal.returns-in_err-to
returns-in_err-to c =
    rw c.from_residual-in_err-to.ensures
    (λ x is.
    let both = two_next c.args.names.now c.args.tokens.now _ x c.in-len5.len_at_least is in
    c.in_err-to.ensures both.0 both.1)

pub returns : goal.returns
returns c = is_move c.args.names.now c.args.tokens.now _ _ _ _ c.in-len5.len_at_least c.in-len5.len_below c.in_ok-from.ensures c.in_ok-to.ensures c.in_ok-count.ensures
