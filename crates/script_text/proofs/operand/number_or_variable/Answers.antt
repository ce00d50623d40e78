use Rattle.script_text.proofs.OperandLaws.{no_number}
use Rattle.script_text.proofs.operand.number_or_variable.Goals as goal

pub returns-in_err-variable : goal.returns-in_err-variable
returns-in_err-variable c = rw (c.from_residual.ensures, c.in-Word.is) (no_number c.args.names.now c.in-Word.word.now c.in_default-number.ensures (rw c.in_err-variable.was at c.variable.ensures))
