use Rattle.std.proofs.Common.{◌≡◌, ◌∙◌, ap₂, codes}
use Rattle.std.proofs.lemmas.Result.{IfOk-weaker}
use Rattle.clap.specs.Words.{new_app, with_rule, app_of}
use Rattle.zone_view.specs.Options.{option_named}
use Rattle.zone_view.proofs.asked.command.Goals as goal

pub returns : goal.returns
returns c =
    let program = new_app (codes "macheap") in
    let one = with_rule program (option_named (codes "look")) in
    let two = with_rule one (option_named (codes "base")) in
    let three = with_rule two (option_named (codes "from")) in
    let four = with_rule three (option_named (codes "mode")) in
    let first_is : app_of c.in_ok-arg.field-0 ≡ one = c.in_ok-arg.ensures.shape c.option.ensures.local ∙ ap₂ with_rule c.new.ensures.app c.option.ensures.rule in
    let second_is : app_of c.in_ok-arg-2.field-0 ≡ two = c.in_ok-arg-2.ensures.shape c.option-2.ensures.local ∙ ap₂ with_rule first_is c.option-2.ensures.rule in
    let third_is : app_of c.in_ok-arg-3.field-0 ≡ three = c.in_ok-arg-3.ensures.shape c.option-3.ensures.local ∙ ap₂ with_rule second_is c.option-3.ensures.rule in
    let fourth_is : app_of c.in_ok-arg-4.field-0 ≡ four = c.in_ok-arg-4.ensures.shape c.option-4.ensures.local ∙ ap₂ with_rule third_is c.option-4.ensures.rule in
    IfOk-weaker c.arg-5.result _ _ (λ r h. h.shape c.flag_option.ensures.local ∙ ap₂ with_rule fourth_is c.flag_option.ensures.rule) c.arg-5.ensures
