use Rattle.std.proofs.Common.{◌∙◌}
use Rattle.linked_zone.proofs.Standing.{stands-now}
use Rattle.linked_zone.proofs.Found.{of-named}
use Rattle.linked_zone.proofs.zone.LinkedZone.contents.Goals as goal

pub contents-requires : goal.contents-requires
contents-requires c = (of-named _ _ (stands-now c.self.invariant c.self.view_is) c.args.block c.address_of.result c.requires.here c.address_of.ensures).there

pub returns : goal.returns
returns c =
    let mine = of-named _ _ (stands-now c.self.invariant c.self.view_is) c.args.block c.address_of.result c.requires.here c.address_of.ensures in
    c.contents.ensures mine.there ∙ mine.bytes
