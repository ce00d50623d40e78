use Rattle.std.proofs.Common.{◌^◌, ◌∙◌, arith, refl, sym, ap, length}
use Rattle.std.proofs.lemmas.Bool.{eqb-true, eqb-false}
use Rattle.std.proofs.lemmas.List.{take_all, nil_from_length}
use Rattle.std.proofs.lemmas.Int.Digits.{digits_more, digits_value_more}
use Rattle.script_text.proofs.Numerals.{digit_at, so_far}
use Rattle.script_text.proofs.operand.numeral.Goals as goal

pub returns-in_err-digit-clause-none : goal.returns-in_err-digit-clause-none
returns-in_err-digit-clause-none c =
    rw c.from_residual.ensures
    (λ n lt is. c.in_err-digit.ensures.value (rw c.from.ensures (digit_at c.args.base c.loop-byte.byte-index c.args.word.now is.1 c.loop-byte-test.true)))

pub returns-in_err-checked_mul-clause-none : goal.returns-in_err-checked_mul-clause-none
returns-in_err-checked_mul-clause-none c =
    rw c.from_residual-in_err-checked_mul.ensures
    (λ n lt is.
    let small = so_far c.args.base c.loop-byte.byte-index n (2 ^ 32) c.args.word.now (omega arith) c.loop-byte-test.true lt is in
    c.in_err-checked_mul.ensures (rw c.loop-byte.invariant.value (omega (arith, small))))

pub returns-in_err-number-clause-none : goal.returns-in_err-number-clause-none
returns-in_err-number-clause-none c =
    rw c.from_residual-in_err-number.ensures
    (λ n lt is.
    let small = so_far c.args.base c.loop-byte.byte-index n (2 ^ 32) c.args.word.now (omega arith) c.loop-byte-test.true lt is in
    c.in_err-number.ensures (rw (c.in_ok-checked_mul.ensures.1, c.in_ok-digit.ensures.value.1, c.loop-byte.invariant.value, c.from.ensures) small))

pub loop-byte-preserved : goal.loop-byte-preserved
loop-byte-preserved c = record {
  digits = digits_more c.args.base c.args.word.now c.loop-byte.byte-index c.loop-byte-test.true c.loop-byte.invariant.digits (rw (← c.from.ensures) c.in_ok-digit.ensures.value.0);
  value = rw (c.in_ok-number.ensures.1, c.in_ok-checked_mul.ensures.1, c.in_ok-digit.ensures.value.1, c.loop-byte.invariant.value, c.from.ensures, digits_value_more c.args.base c.args.word.now c.loop-byte.byte-index c.loop-byte-test.true) refl;
}

pub returns-clause-found : goal.returns-clause-found
returns-clause-found c =
    let whole = take_all c.loop-byte.byte-index c.args.word.now c.loop-byte-test.false in (
      λ e. eqb-false _ _ (sym c.is_empty.ensures ∙ c.if-is_empty.false) (ap length e),
      rw whole at c.loop-byte.invariant.digits,
      rw whole at c.loop-byte.invariant.value,
    )

pub returns-then-is_empty-clause-none : goal.returns-then-is_empty-clause-none
returns-then-is_empty-clause-none c = λ n lt is. is.0 (nil_from_length _ (eqb-true _ _ (sym c.is_empty.ensures ∙ c.if-is_empty.true)))
