use Rattle.std.proofs.Common.{sym, ◌∙◌, arith}
use Rattle.mac_files.proofs.BinHexDigits.{digits_at_colon, digits_at_digit, digits_at_end, digits_at_other, digits_at_skipped}
use Rattle.mac_files.proofs.bin_hex.digits.Digits.next_digit.Goals as goal

pub returns-then-found-eq58-clause-takes : goal.returns-then-found-eq58-clause-takes
returns-then-found-eq58-clause-takes c =
    sym c.loop-self.invariant.same ∙ digits_at_colon c.loop-self.self.text.now c.loop-self.self.at c.loop-self-test.true c.if-found-eq58.true

pub returns-in_default-clause-takes : goal.returns-in_default-clause-takes
returns-in_default-clause-takes c =
    sym c.loop-self.invariant.same
    ∙ digits_at_other c.loop-self.self.text.now c.loop-self.self.at c.loop-self-test.true c.if-found-eq58.false
    (sym c.is_skipped.ensures ∙ c.if-not-is_skipped.true) (sym c.digit_value.ensures.value ∙ c.in_default.is)

pub returns-then-not-is_skipped-clause-takes : goal.returns-then-not-is_skipped-clause-takes
returns-then-not-is_skipped-clause-takes c =
    sym c.loop-self.invariant.same
    ∙ digits_at_digit c.loop-self.self.text.now c.loop-self.self.at c.in-Some.value c.loop-self-test.true c.if-found-eq58.false
    (sym c.is_skipped.ensures ∙ c.if-not-is_skipped.true) (sym c.digit_value.ensures.value ∙ c.in-Some.is)

pub loop-self-preserved : goal.loop-self-preserved
loop-self-preserved c = record {
  same =
      sym (digits_at_skipped c.loop-self.self.text.now c.loop-self.self.at c.loop-self-test.true c.if-found-eq58.false
      (sym c.is_skipped.ensures ∙ c.if-not-is_skipped.false))
      ∙ c.loop-self.invariant.same;
  text = c.loop-self.invariant.text;
  forward = omega arith;
}

pub returns-clause-takes : goal.returns-clause-takes
returns-clause-takes c =
    sym c.loop-self.invariant.same ∙ digits_at_end c.loop-self.self.text.now c.loop-self.self.at c.loop-self-test.false
