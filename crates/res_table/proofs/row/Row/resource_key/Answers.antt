use Rattle.std.proofs.Common.{ℕ, w16, sym, ap, ◌∙◌, rules}
use Rattle.std.specs.Prelude.{◌/◌, ◌%◌}
use Rattle.std.specs.Int.{w32, cast_signed, to_be_bytes}
use Rattle.std.proofs.lemmas.Int.{to_z-of_z}
use mir.Val.{SFits}
use Rattle.res_table.specs.Keyed.{key_of_resource}
use Rattle.res_table.proofs.row.Row.resource_key.Goals as goal

pub returns-clause-told : goal.returns-clause-told
returns-clause-told g c =
    let r = c.args.self.now in let told = c.key_of_resource.ensures in
    let fits : SFits w16 r.resource.id = search rules in let its = to_z-of_z w16 r.resource.id fits in
    let key = sym (told.key ∙ ap (key_of_resource r.resource.kind) its) in
    (ap (λ (k : ℕ). to_be_bytes w32 (k / 65536)) key ∙ told.kind, ap (λ (k : ℕ). cast_signed w16 (k % 65536)) key ∙ told.id ∙ its)
