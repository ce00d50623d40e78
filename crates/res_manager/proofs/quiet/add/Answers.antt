use Rattle.std.proofs.Common.{◌≡◌, SFits, to_z, of_z, w16, w64, rules, ◌∙◌}
use Rattle.std.proofs.lemmas.Int.{to_z-of_z}
use Rattle.mac_base.specs.Outcomes.{done_outcome}
use Rattle.std.specs.Prelude.{option_copied}
use Rattle.res_manager.proofs.States.{added_as, added_ends}
use Rattle.res_manager.proofs.quiet.add.Goals as goal

pub returns-clause-quiet : goal.returns-clause-quiet
returns-clause-quiet g c =
    let fits : SFits w16 c.in-Ok.found.1 = search rules in
    let id : to_z w16 (of_z w16 c.in-Ok.found.1) ≡ c.args.id = to_z-of_z w16 c.in-Ok.found.1 fits ∙ c.in-Ok.ensures.value.2 ∙ to_z-of_z w64 c.args.id c.ranges.id in
    let added = added_as c.args.files.now c.add.new.self c.args.handle c.args.kind (to_z w16 (of_z w16 c.in-Ok.found.1)) c.args.id c.in_ok-name.name (option_copied c.args.name) c.in-Ok.found.0 id c.in_ok-name.ensures c.in_ok-add.ensures.added in (
      search rules,
      added_ends g.S.ForkStore.fork c.args.memory.now c.hset_rbit.new.self c.args.files.now c.add.new.self c.args.handle c.args.kind c.args.id (option_copied c.args.name) c.in-Ok.found.0 (done_outcome c.hset_rbit.result)
          c.in-Ok.ensures.value.0 added c.hset_rbit.ensures.exact c.hset_rbit.ensures.shape,
    )
