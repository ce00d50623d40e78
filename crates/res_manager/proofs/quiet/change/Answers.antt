use Rattle.std.proofs.Common.{sym, subst}
use Rattle.mac_base.specs.declared.resource_call.ResourceCall.TheVariants.{Changing}
use Rattle.res_manager.specs.Ends.{EndsTested}
use Rattle.res_manager.proofs.quiet.change.Goals as goal

pub returns-in-ChangedResource-clause-quiet : goal.returns-in-ChangedResource-clause-quiet
returns-in-ChangedResource-clause-quiet g c = subst (λ d. EndsTested g.S.ForkStore.fork c.args.memory.now c.args.files.now (Changing d) c.mark.result c.args.memory.now c.mark.new.files) (sym c.in-ChangedResource.is) (c.mark.ensures.quiet c.args.memory.now)

pub returns-in-SetResAttrs-clause-quiet : goal.returns-in-SetResAttrs-clause-quiet
returns-in-SetResAttrs-clause-quiet g c = subst (λ d. EndsTested g.S.ForkStore.fork c.args.memory.now c.args.files.now (Changing d) c.set_attributes.result c.args.memory.now c.set_attributes.new.files) (sym c.in-SetResAttrs.is) (c.set_attributes.ensures.quiet c.args.memory.now)
