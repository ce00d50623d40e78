use Rattle.script_lang.proofs.Values.{value_of-given, value_of-other}
use Rattle.script_lang.proofs.vars.values_are_kept.Goals as goal

pub returns : goal.returns
returns c = λ variables place other value. (value_of-given variables place value, value_of-other variables place other value)
