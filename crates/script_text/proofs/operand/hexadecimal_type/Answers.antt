use Rattle.script_text.proofs.OperandLaws.{type_of_digits}
use Rattle.script_text.proofs.operand.hexadecimal_type.Goals as goal

pub returns-in-Some : goal.returns-in-Some
returns-in-Some c =
    let are = rw c.in-Some.is at c.in_ok-bytes.ensures in
    type_of_digits c.args.digits.now c.in-Some.bytes.now c.type_of_bytes.result are c.type_of_bytes.ensures
