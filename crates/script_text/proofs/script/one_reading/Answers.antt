use Rattle.script_text.proofs.OneScript.{one_script}
use Rattle.script_text.proofs.OneFault.{one_fault, no_fault}
use Rattle.script_text.proofs.script.one_reading.Goals as goal

pub returns : goal.returns
returns c = record { script = one_script; fault = one_fault; not_both = no_fault }
