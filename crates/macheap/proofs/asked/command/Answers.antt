use Rattle.std.proofs.Common.{◌≡◌, ◌∙◌, ap, ap₂, codes}
use Rattle.std.proofs.lemmas.Result.{IfOk-weaker}
use Rattle.clap.specs.Words.{with_rule, app_of}
use Rattle.clap.specs.Simple.{app_of_fields}
use Rattle.macheap.specs.Options.{option_named, file_option, program, with_version}
use Rattle.macheap.proofs.asked.command.Goals as goal

pub returns : goal.returns
returns c =
    let new_is : app_of c.version.result ≡ program =
    ap app_of_fields c.version.ensures ∙ ap with_version c.new.ensures.app in
    let first_is : app_of c.in_ok-arg.field-0 ≡ with_rule program (option_named (codes "zone")) = c.in_ok-arg.ensures.shape c.number_option.ensures.local ∙ ap₂ with_rule new_is c.number_option.ensures.rule in
    let second_is : app_of c.in_ok-arg-2.field-0 ≡ with_rule (with_rule program (option_named (codes "zone"))) (option_named (codes "limit")) = c.in_ok-arg-2.ensures.shape c.number_option-2.ensures.local ∙ ap₂ with_rule first_is c.number_option-2.ensures.rule in
    let third_is : app_of c.in_ok-arg-3.field-0 ≡ with_rule (with_rule (with_rule program (option_named (codes "zone"))) (option_named (codes "limit"))) (option_named (codes "base")) = c.in_ok-arg-3.ensures.shape c.number_option-3.ensures.local ∙ ap₂ with_rule second_is c.number_option-3.ensures.rule in
    let fourth_is : app_of c.in_ok-arg-4.field-0 ≡ with_rule (with_rule (with_rule (with_rule program (option_named (codes "zone"))) (option_named (codes "limit"))) (option_named (codes "base"))) (option_named (codes "mode")) = c.in_ok-arg-4.ensures.shape c.number_option-4.ensures.local ∙ ap₂ with_rule third_is c.number_option-4.ensures.rule in
    let fifth_is : app_of c.in_ok-arg-5.field-0 ≡ with_rule (with_rule (with_rule (with_rule (with_rule program (option_named (codes "zone"))) (option_named (codes "limit"))) (option_named (codes "base"))) (option_named (codes "mode"))) (file_option (codes "fork")) = c.in_ok-arg-5.ensures.shape c.file_option.ensures.local ∙ ap₂ with_rule fourth_is c.file_option.ensures.rule in
    let sixth_is : app_of c.in_ok-arg-6.field-0 ≡ with_rule (with_rule (with_rule (with_rule (with_rule (with_rule program (option_named (codes "zone"))) (option_named (codes "limit"))) (option_named (codes "base"))) (option_named (codes "mode"))) (file_option (codes "fork"))) (file_option (codes "journal")) = c.in_ok-arg-6.ensures.shape c.file_option-2.ensures.local ∙ ap₂ with_rule fifth_is c.file_option-2.ensures.rule in
    IfOk-weaker c.arg-7.result _ _ (λ r h. h.shape c.flag_option.ensures.local ∙ ap₂ with_rule sixth_is c.flag_option.ensures.rule) c.arg-7.ensures
