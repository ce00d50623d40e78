use Rattle.toolbox.proofs.Lent.{Holds-stepped}
use Rattle.toolbox.proofs.toolbox.Toolbox.call_memory.Goals as goal

pub invariant_of-self : goal.invariant_of-self
invariant_of-self g c = Holds-stepped c.self.inside.memory c.make.new.memory c.self.inside.loans c.args.call.now (g.G.GrowZone.asks c.make.new.procedure.procedure.now) c.make.result c.make.ensures.step c.make.ensures.unchanged c.make.ensures.loans c.self.invariant

pub invariant_of-self-in-Some : goal.invariant_of-self-in-Some
invariant_of-self-in-Some g c = Holds-stepped c.self.inside.memory c.make.new.memory c.self.inside.loans c.args.call.now (g.G.GrowZone.asks c.make.new.procedure.procedure.now) c.make.result c.make.ensures.step c.make.ensures.unchanged c.make.ensures.loans c.self.invariant

pub invariant_of-self-in_default : goal.invariant_of-self-in_default
invariant_of-self-in_default g c = Holds-stepped c.self.inside.memory c.make.new.memory c.self.inside.loans c.args.call.now (g.G.GrowZone.asks c.make.new.procedure.procedure.now) c.make.result c.make.ensures.step c.make.ensures.unchanged c.make.ensures.loans c.self.invariant
