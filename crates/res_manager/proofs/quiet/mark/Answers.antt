use Rattle.std.proofs.Common.{Ok, rules, sym, ap, ◌∙◌}
use Rattle.mac_base.specs.declared.resource.ResAttrs.{ResAttrs}
use Rattle.mac_base.specs.declared.reply.Results.TheVariants.{Nothing}
use Rattle.res_update.specs.Attributes.{marked}
use Rattle.res_update.specs.Files.{ResourceEnd}
use Rattle.res_files.specs.FilesOn.{FilesOn}
use Rattle.res_manager.specs.Steps.{state_of}
use Rattle.res_manager.proofs.Changing.{attributes_set}
use Rattle.res_manager.proofs.quiet.mark.Goals as goal

pub returns-clause-quiet : goal.returns-clause-quiet
returns-clause-quiet g c = λ zone.
    let row = c.attributes_at-attributes.ensures in
    let set = attributes_set c.args.files.now c.set_attributes.new.self c.args.handle c.in_ok-place.place row.0 marked c.marked.result c.in_ok-place.ensures.value row.1
    (c.marked.ensures ∙ ap (λ (a : ResAttrs). marked a) row.2) c.set_attributes.ensures in
    (search rules, ap (λ (files : FilesOn _). let e : ResourceEnd = record { outcome = Ok Nothing; state = state_of g.S.ForkStore.fork zone files } in e) (sym set))
