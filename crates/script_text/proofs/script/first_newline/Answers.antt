use Rattle.std.proofs.Common.{eqb}
use Rattle.script_text.proofs.Fronts.{first_is_position}
use Rattle.script_text.proofs.script.first_newline.Goals as goal

pub returns : goal.returns
returns c = first_is_position (λ byte. eqb byte 10) c.args.text.now c.memchr.result c.memchr.ensures
