use Rattle.script_text.proofs.OperandLaws.{id_below}
use Rattle.script_text.proofs.operand.id.Goals as goal

pub returns-in-None : goal.returns-in-None
returns-in-None c = id_below c.args.word.now c.negative_id.result c.in-None.ensures c.negative_id.ensures
