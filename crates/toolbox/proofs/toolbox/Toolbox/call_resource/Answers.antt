use Rattle.held_calls.specs.Holding.{loans_of}
use Rattle.held_calls.proofs.Holding.{Holds-kept}
use Rattle.toolbox.proofs.Resources.{resource_gives, resource_unchanged}
use Rattle.toolbox.proofs.toolbox.Toolbox.call_resource.Goals as goal

pub invariant_of-self : goal.invariant_of-self
invariant_of-self g c = Holds-kept c.self.inside.memory c.make.new.memory c.self.inside.loans c.make.ensures.loans c.make.ensures.lent c.self.invariant

pub returns-clause-gives : goal.returns-clause-gives
returns-clause-gives g c = rw (← c.self.view_is) (resource_gives g.S.ForkStore c.self.inside.memory c.make.new.memory (loans_of c.self.inside.loans) c.self.inside.refused c.self.inside.files c.make.new.files c.self.inside.resource_refused c.args.call.now (g.G.GrowZone.asks c.make.new.procedure) c.make.result c.make.ensures.step c.make.ensures.leaves.reads_back c.make.ensures.leaves.any_moment c.make.ensures.leaves.settled c.make.ensures.leaves.honest c.make.ensures.count)

pub returns-clause-unchanged : goal.returns-clause-unchanged
returns-clause-unchanged g c = rw (← c.self.view_is) (resource_unchanged g.S.ForkStore c.self.inside.memory c.make.new.memory (loans_of c.self.inside.loans) c.self.inside.refused c.self.inside.files c.make.new.files c.self.inside.resource_refused c.args.call.now c.make.result c.make.ensures.unchanged c.make.ensures.same c.make.ensures.leaves.crash_full c.make.ensures.leaves.honest c.make.ensures.count)

pub returns-clause-full : goal.returns-clause-full
returns-clause-full g c = rw (← c.self.view_is) c.make.ensures.full

pub returns-clause-late : goal.returns-clause-late
returns-clause-late g c = rw (← c.self.view_is) c.make.ensures.late
