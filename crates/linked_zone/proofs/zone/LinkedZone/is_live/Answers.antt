use Rattle.std.proofs.Common.{◌≡◌, ◌∙◌, sym, ap, not}
use Rattle.std.proofs.lemmas.Bool.{false_from_ne_true}
use Rattle.mac_base.specs.HandleTable.{is_handle}
use Rattle.linked_zone.proofs.Standing.{stands-now}
use Rattle.linked_zone.proofs.ReadBack.{slot_no_pointer}
use Rattle.linked_zone.proofs.Found.{slot-is, slot-there, slot-live, says_live, other-live}
use Rattle.linked_zone.proofs.zone.LinkedZone.is_live.Goals as goal
use Rattle.linked_zone.proofs.zone.LinkedZone.is_live.Goals.{in-Free, in_default}

pub slot-requires : goal.slot-requires
slot-requires c =
    slot-there _ _ (stands-now c.self.invariant c.self.view_is) c.args.handle c.number.result c.number.ensures (c.is_slot.ensures.0 c.if-is_slot.true)

pub returns-after-matches : goal.returns-after-matches
returns-after-matches c =
    let z = c.args.self.now in
    let stands = stands-now c.self.invariant c.self.view_is in
    let there = c.is_slot.ensures.0 c.if-is_slot.true in
    let says : says_live c.slot.result ≡ is_handle z.heap.table c.args.handle = ap says_live (slot-is _ _ stands c.args.handle c.number.result c.slot.result c.number.ensures there c.slot.ensures)
    ∙ slot-live z c.args.handle (slot_no_pointer z stands.fits stands.rooms c.args.handle there) in
    elim c.match-matches.branch [
      | in-Free w ↦ ap not w.matches-is ∙ sym (ap says_live w.in-Free.is) ∙ says
      | in_default w ↦ ap not w.matches-is ∙ sym (other-live c.slot.result w.in_default.not-Free) ∙ says
    ]

pub returns-else-is_slot : goal.returns-else-is_slot
returns-else-is_slot c =
    c.if-is_slot.false ∙ sym (false_from_ne_true (is_handle c.args.self.now.heap.table c.args.handle) (λ live. cc (c.is_slot.ensures.1 ((stands-now c.self.invariant c.self.view_is).fits.coherent.in_slots c.args.handle live), c.if-is_slot.false)))
