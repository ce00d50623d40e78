use Rattle.script_lang.specs.declared.table.CallName.TheVariants as name
use Rattle.script_text.proofs.CallLaws.{too_many}
use Rattle.script_text.proofs.call.file_call.Goals as goal

pub returns-in_default : goal.returns-in_default
returns-in_default c = λ x is. too_many c.args.names.now (name.File c.args.call) c.args.tokens.now x c.in_default.len_at_least is
