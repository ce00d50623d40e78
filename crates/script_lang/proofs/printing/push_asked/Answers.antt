use Rattle.std.proofs.Common.{arith}
use Rattle.std.proofs.lemmas.Grind.{common_steps}
use Rattle.std.proofs.lemmas.List.Folds.{length-flat_map-take}
use Rattle.mac_base.specs.declared.grow_zone.Asked.{Asked}
use Rattle.script_lang.specs.Text.{asked_text}
use Rattle.script_lang.proofs.printing.push_asked.Goals as goal

pub returns-in_err-push_ask : goal.returns-in_err-push_ask
returns-in_err-push_ask c =
    let none : Asked = record { needed = 0; value = 0 } in
    let within = length-flat_map-take asked_text c.args.asked.now c.loop-ask.ask-index none c.loop-ask-test.true in
    grind (arith, common_steps, within)
