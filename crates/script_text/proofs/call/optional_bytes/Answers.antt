use Rattle.script_text.proofs.CallLaws.{too_many_bytes}
use Rattle.script_text.proofs.call.optional_bytes.Goals as goal

pub returns-in_default : goal.returns-in_default
returns-in_default c = λ x are. too_many_bytes c.args.names.now c.args.tokens.now x c.in_default.len_at_least are
