use Rattle.std.proofs.Common.{◌∙◌, subst}
use Rattle.mac_base.specs.ZoneSizes.{ArePossible}
use Rattle.linked_zone.specs.Changes.{extended}
use Rattle.linked_zone.proofs.Found.{sizes-read}
use Rattle.linked_zone.proofs.Standing.{Kept, stands-now}
use Rattle.linked_zone.proofs.EndsExtended.{extend-ends}
use Rattle.linked_zone.proofs.zone.LinkedZone.extend.Goals as goal

-- how it ends
ends : (c : goal.After-extend) → Kept c.extend.new.self (extended c.args.self.now)
ends c =
    let r = c.self.inside.records in
    let stands = stands-now c.self.invariant c.self.view_is in
    extend-ends r c.args.self.now stands (subst ArePossible (c.spec.ensures ∙ sizes-read r c.args.self.now stands) c.size-size.ensures.possible) c.extend.new.self c.extend.ensures

pub invariant_of-self : goal.invariant_of-self
invariant_of-self c = (ends c).inside

pub returns : goal.returns
returns c = (ends c).same
