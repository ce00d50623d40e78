use Rattle.std.proofs.Common.{◌≡◌, List, ◌∷◌, ◌++◌, [], map, subst, sym, ◌∙◌, ap, rules}
use Rattle.std.specs.List.{AllByRecursion}
use Rattle.std.proofs.lemmas.List.{map-id, map_push}
use Rattle.std.proofs.lemmas.Iterator.Adapters.{YieldsList-from_vec}
use Rattle.std.proofs.lemmas.Iterator.Consumers.{YieldsList-end}
use Rattle.fork_bytes.proofs.Placing.{all_push}
use Rattle.fork_folder.specs.Manifest.{AllSay}
use Rattle.fork_folder.specs.Packed.{Listed, listed}
use Rattle.fork_folder.specs.Paths.{IsInFolder}
use Rattle.fork_folder.specs.declared.manifest.Resource.{Resource}
use Rattle.fork_folder.specs.declared.rows.Entry.{Entry}
use Rattle.std.proofs.lemmas.Result.{err_from_is_err_and}
use Rattle.fork_folder.proofs.Texts.{no_digits, say_more}
use Rattle.fork_folder.proofs.manifest.packing_of.Goals as goal

pub loop-resource-preserved : goal.loop-resource-preserved
loop-resource-preserved c =
    let so_far = c.loop-resource.invariant.3 in
    let entries = c.loop-resource.entries.items in
    let entry = c.in_ok-entry_of.field-0 in
    let says = say_more c.loop-resource.yielded (map listed entries) c.in-Some-resource.resource (listed entry) so_far c.in_ok-entry_of.ensures.entry in
    let P : List Listed → Type 0 = λ ones. AllSay (c.loop-resource.yielded ++ c.in-Some-resource.resource ∷ []) ones in
    let same : map listed c.push.new.self.items ≡ map listed entries ++ listed entry ∷ [] = ap (λ (all : List Entry). map listed all) c.in_ok-push.ensures.items ∙ map_push listed entries entry in
    let Q : List Entry → Type 0 = λ all. AllByRecursion IsInFolder all in
    let inside = all_push IsInFolder entries entry c.loop-resource.invariant.2 c.in_ok-entry_of.ensures.inside in
    (tt, tt, subst Q (sym c.in_ok-push.ensures.items) inside, subst P (sym same) says)

pub returns-clause-says : goal.returns-clause-says
returns-clause-says c =
    let all : c.loop-resource.yielded ≡ c.args.manifest.resources.items =
    sym (map-id _) ∙ (YieldsList-end (YieldsList-from_vec c.args.manifest.resources.items (search rules) (search rules)) c.loop-resource.yielded _ c.loop-resource.yielded_by _ c.next.new.self c.in-None.is c.next.ensures.steps).0 in
    let P : List Resource → Type 0 = λ resources. AllSay resources (map listed c.loop-resource.entries.items) in
    record { extra = search rules; map_attributes = search rules; resources = subst P all c.loop-resource.invariant.3 }

pub returns-in_default-clause-refused : goal.returns-in_default-clause-refused
returns-in_default-clause-refused c = no_digits c.extra_of.result c.as_str.result.now _ c.extra_of.ensures.found (sym c.as_str.ensures.value) c.in_default.is

pub returns-in_err-entry_of-clause-refused : goal.returns-in_err-entry_of-clause-refused
returns-in_err-entry_of-clause-refused c =
    let p = err_from_is_err_and c.from_residual.result c.from_residual.ensures.1 in
    rw (p.1, p.2) (c.in_err-entry_of.ensures.refused c.args.manifest)
