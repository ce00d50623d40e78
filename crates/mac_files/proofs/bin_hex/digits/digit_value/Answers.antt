use Rattle.mac_files.proofs.BinHexDigits.{digit_of_digit, digit_of_other, digit_of_past}
use Rattle.mac_files.proofs.bin_hex.digits.digit_value.Goals as goal

pub returns-then-place-ge115-clause-value : goal.returns-then-place-ge115-clause-value
returns-then-place-ge115-clause-value c = digit_of_past c.args.character c.ranges.character.fits c.if-place-ge115.true

pub returns-then-value-lt64-clause-value : goal.returns-then-value-lt64-clause-value
returns-then-value-lt64-clause-value c = digit_of_digit c.args.character c.ranges.character.fits c.if-place-ge115.false c.if-value-lt64.true

pub returns-else-value-lt64-clause-value : goal.returns-else-value-lt64-clause-value
returns-else-value-lt64-clause-value c = digit_of_other c.args.character c.ranges.character.fits c.if-place-ge115.false c.if-value-lt64.false
