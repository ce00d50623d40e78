use Rattle.std.proofs.Common.{◌+◌, List, map, subst, sym, take}
use Rattle.std.proofs.lemmas.Result.{err_from_is_err_and}
use Rattle.serde_json.specs.View.{view}
use Rattle.serde_json.specs.declared.value.Value.{Value}
use Rattle.fork_folder.specs.Json.{AreResourcesIn, IsResourceIn, IsUnread}
use Rattle.fork_folder.specs.declared.manifest.Resource.{Resource}
use Rattle.fork_folder.proofs.Reading.{read_at, unread_at}
use Rattle.fork_folder.proofs.json.resources_in.Goals as goal

pub loop-value-preserved : goal.loop-value-preserved
loop-value-preserved c =
    let P : List Resource → Type 0 = λ resources. AreResourcesIn (map view (take (c.loop-value.value-index + 1) c.args.list.now)) resources in
    let Q : Value → Type 0 = λ value. IsResourceIn (view value) c.in_ok-resource_in.field-0 in
    let one = subst Q c.value-item.is c.in_ok-resource_in.ensures.read in
    subst P (sym c.in_ok-push.ensures.items) (read_at c.args.list.now c.loop-value.value-index c.value-item.result _ _ c.loop-value-test.true c.loop-value.invariant one)

pub returns-in_err-resource_in-clause-refused : goal.returns-in_err-resource_in-clause-refused
returns-in_err-resource_in-clause-refused c =
    let p = err_from_is_err_and c.from_residual.result c.from_residual.ensures.1 in
    let Q : Value → Type 0 = λ value. IsUnread (IsResourceIn (view value)) c.in_err-resource_in.field-0.0 in
    rw (p.1, p.2) (unread_at c.args.list.now c.loop-value.value-index c.value-item.result _ c.loop-value-test.true (subst Q c.value-item.is c.in_err-resource_in.ensures.refused))
