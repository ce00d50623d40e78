use Rattle.std.proofs.Common.{sym, ap, ◌∙◌}
use Rattle.mac_base.specs.ZoneSizes.{ZoneSizes}
use Rattle.linked_zone.proofs.Standing.{stands-now}
use Rattle.linked_zone.proofs.ChangeEmptied.{emptied-slot}
use Rattle.linked_zone.proofs.Found.{slot-there, slot-is, head-read, none-said, full-slot}
use Rattle.linked_zone.proofs.zone.LinkedZone.block_of.Goals as goal

pub slot-requires : goal.slot-requires
slot-requires c =
    let stands = stands-now c.self.invariant c.self.view_is in
    slot-there _ _ stands c.args.handle c.number.result c.number.ensures (emptied-slot c.args.self.now c.args.handle stands.fits c.requires)

pub unreachable-requires : goal.unreachable-requires
unreachable-requires c =
    let stands = stands-now c.self.invariant c.self.view_is in
    cc (none-said c.args.self.now c.args.handle c.slot.result c.in-Free.is (slot-is _ _ stands c.args.handle c.number.result c.slot.result c.number.ensures (emptied-slot c.args.self.now c.args.handle stands.fits c.requires) c.slot.ensures), c.requires)

pub overflow_sub-result : goal.overflow_sub-result
overflow_sub-result c =
    let stands = stands-now c.self.invariant c.self.view_is in
    (full-slot c.args.self.now stands.fits c.args.handle c.in-Full.field-0 c.in-Full.contents c.head_size.result (sym c.in-Full.is ∙ slot-is _ _ stands c.args.handle c.number.result c.slot.result c.number.ensures (emptied-slot c.args.self.now c.args.handle stands.fits c.requires) c.slot.ensures) (head-read _ _ stands c.heads.result c.head_size.result (c.heads.ensures ∙ ap (λ (s : ZoneSizes). s.heads) c.spec.ensures) c.head_size.ensures)).above

pub returns : goal.returns
returns c =
    let stands = stands-now c.self.invariant c.self.view_is in
    (full-slot c.args.self.now stands.fits c.args.handle c.in-Full.field-0 c.in-Full.contents c.head_size.result (sym c.in-Full.is ∙ slot-is _ _ stands c.args.handle c.number.result c.slot.result c.number.ensures (emptied-slot c.args.self.now c.args.handle stands.fits c.requires) c.slot.ensures) (head-read _ _ stands c.heads.result c.head_size.result (c.heads.ensures ∙ ap (λ (s : ZoneSizes). s.heads) c.spec.ensures) c.head_size.ensures)).block
