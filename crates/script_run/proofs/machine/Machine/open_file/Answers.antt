use Rattle.std.proofs.Common.{◌≡◌, [], rules}
use Rattle.std.specs.Prelude.{OnOk}
use Rattle.script_run.specs.Line.{opening_text}
use Rattle.script_run.proofs.Opening.{machine_opened, on_fault, on_value, opening_keeps_forks, unchanged_keeps_forks}
use Rattle.mac_base.specs.declared.call.Call.TheVariants.{Resource}
use Rattle.mac_base.specs.declared.resource_call.ResourceCall.TheVariants.{OpenResFile}
use Rattle.script_run.proofs.machine.Machine.open_file.Goals as goal

pub returns-clause-opens : goal.returns-clause-opens
returns-clause-opens g c =
    let outcome = c.in_ok-code.field-0 in
    let opened = c.in_ok-code.ensures in
    let text : OnOk c.match-branch-2.result (c.match-branch-2.text ≡ opening_text outcome) = search rules in
    on_value _ _ c.match-branch-2.result (machine_opened g.S.ForkStore c.args.self.now c.open_first.new.self outcome c.match-branch-2.text opened.opens opened.shape opened.refused opened.resource_refused) text

pub returns-clause-unchanged : goal.returns-clause-unchanged
returns-clause-unchanged g c = on_fault c.match-branch-2.result (opening_keeps_forks g.S.ForkStore c.args.self.now.toolbox c.open_first.new.self 1 [] _ c.in_ok-code.ensures.opens)

pub returns-in_err-code-clause-unchanged : goal.returns-in_err-code-clause-unchanged
returns-in_err-code-clause-unchanged g c =
    on_fault _ (unchanged_keeps_forks g.S.ForkStore c.args.self.now.toolbox c.open_first.new.self (Resource (OpenResFile 1)) c.in_err-code.ensures.unchanged)
