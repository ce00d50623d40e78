use Rattle.script_text.proofs.DigitValues.{small_value, large_value}
use Rattle.script_text.proofs.operand.hexadecimal_digit.Goals as goal

pub returns-then-value-lt16 : goal.returns-then-value-lt16
returns-then-value-lt16 c = small_value c.args.digit _ c.ranges.digit.fits c.if-value-lt16.true

pub returns-else-value-lt16 : goal.returns-else-value-lt16
returns-else-value-lt16 c = large_value c.args.digit _ c.ranges.digit.fits c.if-value-lt16.false
