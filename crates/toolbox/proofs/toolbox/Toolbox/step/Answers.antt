use Rattle.std.proofs.Common.{ap}
use Rattle.toolbox.specs.Steps.{refused_after, resource_refused_after}
use Rattle.toolbox.proofs.Headline.{toolbox-shows}
use Rattle.toolbox.proofs.Recovery.{toolbox-recovers}
use Rattle.toolbox.proofs.Resources.{gives_noted}
use Rattle.toolbox.proofs.toolbox.Toolbox.step.Goals as goal

pub returns-clause-step : goal.returns-clause-step
returns-clause-step g c = rw c.note.ensures (
  gives_noted g.S.ForkStore c.args.self.now c.outcome.new.self _ _ c.args.call.now (g.G.GrowZone.asks c.outcome.new.procedure) c.in_ok-outcome.field-0 c.in_ok-outcome.ensures.gives,
  c.in_ok-outcome.ensures.shape,
  ap (λ code. refused_after code c.args.call.now c.in_ok-outcome.field-0) c.in_ok-outcome.ensures.refused,
  ap (λ code. resource_refused_after code c.args.call.now c.in_ok-outcome.field-0) c.in_ok-outcome.ensures.resource_refused,
)

pub returns-clause-headline : goal.returns-clause-headline
returns-clause-headline g c = toolbox-shows g.S.ForkStore

pub returns-in_err-outcome-clause-headline : goal.returns-in_err-outcome-clause-headline
returns-in_err-outcome-clause-headline g c = toolbox-shows g.S.ForkStore

pub returns-clause-recovers : goal.returns-clause-recovers
returns-clause-recovers g c = toolbox-recovers g.S.ForkStore

pub returns-in_err-outcome-clause-recovers : goal.returns-in_err-outcome-clause-recovers
returns-in_err-outcome-clause-recovers g c = toolbox-recovers g.S.ForkStore
