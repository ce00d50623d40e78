use Rattle.std.proofs.Common.{refl, rules}
use Rattle.script_text.proofs.operand.id_below_zero.Goals as goal

pub returns-in-Some : goal.returns-in-Some
returns-in-Some c = (refl, c.in-Some.number, c.if-number-le32768.true, c.in-Some.ensures.found, search rules)
