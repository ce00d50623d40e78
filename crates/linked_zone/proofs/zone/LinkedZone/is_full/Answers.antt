use Rattle.std.proofs.Common.{ap, sym, ◌∙◌}
use Rattle.linked_zone.proofs.Standing.{stands-now}
use Rattle.linked_zone.proofs.Found.{slot-is, slot-there, slot-full, says_full, other-full}
use Rattle.linked_zone.proofs.zone.LinkedZone.is_full.Goals as goal

pub slot-requires : goal.slot-requires
slot-requires c =
    let stands = stands-now c.self.invariant c.self.view_is in
    slot-there _ _ stands c.args.handle c.number.result c.number.ensures (stands.fits.coherent.in_slots c.args.handle c.requires)

pub returns-in-Full : goal.returns-in-Full
returns-in-Full c =
    let stands = stands-now c.self.invariant c.self.view_is in
    sym (ap says_full c.in-Full.is) ∙ ap says_full (slot-is _ _ stands c.args.handle c.number.result c.slot.result c.number.ensures (stands.fits.coherent.in_slots c.args.handle c.requires) c.slot.ensures) ∙ slot-full c.args.self.now c.args.handle

pub returns-in_default : goal.returns-in_default
returns-in_default c =
    let stands = stands-now c.self.invariant c.self.view_is in
    sym (other-full c.slot.result c.in_default.not-Full) ∙ ap says_full (slot-is _ _ stands c.args.handle c.number.result c.slot.result c.number.ensures (stands.fits.coherent.in_slots c.args.handle c.requires) c.slot.ensures) ∙ slot-full c.args.self.now c.args.handle
