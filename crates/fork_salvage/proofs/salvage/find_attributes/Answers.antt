use Rattle.std.proofs.Common.{ap, ◌∙◌}
use Rattle.fork_salvage.specs.declared.plan.Plan.{Plan}
use Rattle.fork_salvage.specs.Salvage.{attributes_in, part}
use Rattle.fork_salvage.proofs.salvage.find_attributes.Goals as goal

pub returns : goal.returns
returns c = c.attributes_in.ensures ∙ ap attributes_in c.of.ensures ∙ ap (λ (p : Plan). attributes_in (part c.args.fork.now p.map)) c.plan_of.ensures.plan
