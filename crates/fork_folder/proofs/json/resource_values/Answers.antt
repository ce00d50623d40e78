use Rattle.std.proofs.Common.{◌≡◌, ◌∙◌, List, ap, map, subst}
use Rattle.serde_json.specs.View.{view}
use Rattle.serde_json.specs.declared.value.Value.{Value}
use Rattle.fork_folder.specs.Json.{resource_data}
use Rattle.fork_folder.specs.declared.manifest.Resource.{Resource}
use Rattle.fork_folder.proofs.Reading.{written_at}
use Rattle.fork_folder.proofs.json.resource_values.Goals as goal

pub loop-resource-preserved : goal.loop-resource-preserved
loop-resource-preserved c =
    let Q : Resource → Type 0 = λ resource. view c.in_ok-resource_value.field-0 ≡ resource_data resource in
    let one = subst Q c.resource-item.is c.in_ok-resource_value.ensures in
    ap (λ (all : List Value). map view all) c.in_ok-push.ensures.items
    ∙ written_at c.args.resources.now c.loop-resource.resource-index c.resource-item.result _ _ c.loop-resource-test.true c.loop-resource.invariant one
