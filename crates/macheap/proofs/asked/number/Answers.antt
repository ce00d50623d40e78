use Rattle.std.proofs.Common.{◌∙◌, sym}
use Rattle.macheap.proofs.Found.{no_digits}
use Rattle.macheap.proofs.asked.number.Goals as goal

pub returns-then-not-is_digits-clause-none : goal.returns-then-not-is_digits-clause-none
returns-then-not-is_digits-clause-none c = rw c.in-Some.is (no_digits c.in-Some.text.now (sym c.is_digits.ensures ∙ c.if-not-is_digits.true))
