use Rattle.std.proofs.Common.{w16, ap, ◌∙◌, rules}
use Rattle.std.proofs.lemmas.Int.{to_z-of_z}
use mir.Val.{SFits}
use Rattle.res_table.specs.Keyed.{key_of_resource}
use Rattle.res_table.proofs.Resources.{told_by_key}
use Rattle.res_table.proofs.row.Row.has_key_of.Goals as goal

pub returns-clause-resource : goal.returns-clause-resource
returns-clause-resource g c =
    let r = c.args.self.now in let first = c.key_of_resource.ensures in let second = c.key_of_resource-2.ensures in
    let fits : SFits w16 r.resource.id = search rules in
    let its = to_z-of_z w16 r.resource.id fits in let id = to_z-of_z w16 c.args.id c.ranges.id in
    told_by_key c.args.kind c.args.id r c.key_of_resource.result c.key_of_resource-2.result (first.key ∙ ap (key_of_resource r.resource.kind) its) (second.key ∙ ap (key_of_resource c.args.kind) id)
    first.kind (first.id ∙ its) second.kind (second.id ∙ id)
