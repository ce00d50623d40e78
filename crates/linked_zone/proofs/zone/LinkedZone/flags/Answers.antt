use Rattle.std.proofs.Common.{sym, ap, ◌-◌, ◌∙◌}
use Rattle.mac_base.specs.ZoneSizes.{ZoneSizes}
use Rattle.mac_base.specs.HandleTable.{flags_of}
use Rattle.zone_records.specs.Records.{ZoneRecords}
use Rattle.linked_zone.specs.Flags.{flags_there}
use Rattle.linked_zone.proofs.Standing.{stands-now}
use Rattle.linked_zone.proofs.Found.{slot-there, slot-is, head-read, none-said, no-flags, flags-there, of-handle, full-slot}
use Rattle.linked_zone.proofs.zone.LinkedZone.flags.Goals as goal

pub slot-requires : goal.slot-requires
slot-requires c =
    let stands = stands-now c.self.invariant c.self.view_is in
    slot-there _ _ stands c.args.handle c.number.result c.number.ensures (stands.fits.coherent.in_slots c.args.handle c.requires)

pub overflow_sub-contents : goal.overflow_sub-contents
overflow_sub-contents c =
    let stands = stands-now c.self.invariant c.self.view_is in
    (full-slot c.args.self.now stands.fits c.args.handle c.in-Full.said c.in-Full.contents c.head_size-head_size.result (sym c.in-Full.is ∙ slot-is _ _ stands c.args.handle c.number.result c.slot.result c.number.ensures (stands.fits.coherent.in_slots c.args.handle c.requires) c.slot.ensures) (head-read _ _ stands c.heads.result c.head_size-head_size.result (c.heads.ensures ∙ ap (λ (s : ZoneSizes). s.heads) c.spec.ensures) c.head_size-head_size.ensures)).above

pub read-requires : goal.read-requires
read-requires c =
    let stands = stands-now c.self.invariant c.self.view_is in
    let full = full-slot c.args.self.now stands.fits c.args.handle c.in-Full.said c.in-Full.contents c.head_size-head_size.result (sym c.in-Full.is ∙ slot-is _ _ stands c.args.handle c.number.result c.slot.result c.number.ensures (stands.fits.coherent.in_slots c.args.handle c.requires) c.slot.ensures) (head-read _ _ stands c.heads.result c.head_size-head_size.result (c.heads.ensures ∙ ap (λ (s : ZoneSizes). s.heads) c.spec.ensures) c.head_size-head_size.ensures) in
    (of-handle _ _ stands c.args.handle (c.in-Full.contents - c.head_size-head_size.result) full.block).there

pub returns-in-Full : goal.returns-in-Full
returns-in-Full c =
    let z = c.args.self.now in
    let stands = stands-now c.self.invariant c.self.view_is in
    let full = full-slot z stands.fits c.args.handle c.in-Full.said c.in-Full.contents c.head_size-head_size.result (sym c.in-Full.is ∙ slot-is _ _ stands c.args.handle c.number.result c.slot.result c.number.ensures (stands.fits.coherent.in_slots c.args.handle c.requires) c.slot.ensures) (head-read _ _ stands c.heads.result c.head_size-head_size.result (c.heads.ensures ∙ ap (λ (s : ZoneSizes). s.heads) c.spec.ensures) c.head_size-head_size.ensures) in
    let mine = of-handle _ _ stands c.args.handle (c.in-Full.contents - c.head_size-head_size.result) full.block in
    c.read.ensures mine.there ∙ ap (λ (r : ZoneRecords). flags_there r.shape.heads c.in-Full.said mine.there.flags) stands.blocks
    ∙ (λ i. flags_there z.shape.heads (full.says i) (mine.says i)) ∙ flags-there z.shape.heads (flags_of z.heap.table c.args.handle)

pub returns-in-Free : goal.returns-in-Free
returns-in-Free c =
    let stands = stands-now c.self.invariant c.self.view_is in
    no-flags c.args.self.now c.args.handle (none-said c.args.self.now c.args.handle c.slot.result c.in-Free.is (slot-is _ _ stands c.args.handle c.number.result c.slot.result c.number.ensures (stands.fits.coherent.in_slots c.args.handle c.requires) c.slot.ensures))
