use Rattle.std.proofs.Common.{refl, ap, sym, ◌∙◌, Contains, subst}
use Rattle.std.proofs.lemmas.Bool.{false_from_ne_true}
use Rattle.mac_base.specs.HandleTable.{is_pointer, is_full}
use Rattle.mac_base.specs.Suits.{slots}
use Rattle.zone_laws.proofs.Tables.{full_handle}
use Rattle.linked_zone.proofs.Standing.{stands-now}
use Rattle.linked_zone.proofs.Found.{slot-is, slot-there, slot-full, full-other, says_full, other-full}
use Rattle.linked_zone.proofs.zone.LinkedZone.has_block.Goals as goal

pub slot-requires : goal.slot-requires
slot-requires c =
    let z = c.args.self.now in
    slot-there _ _ (stands-now c.self.invariant c.self.view_is) c.args.block c.args.block refl
    (subst (Contains (slots z.shape z.heap.map)) c.new-else-is_pointer.ensures (c.is_slot.ensures.0 c.if-is_slot.true))

pub returns-in-Full : goal.returns-in-Full
returns-in-Full c =
    let z = c.args.self.now in
    let there = subst (Contains (slots z.shape z.heap.map)) c.new-else-is_pointer.ensures (c.is_slot.ensures.0 c.if-is_slot.true) in
    let other = ap (is_pointer z.heap.table) (sym c.new.ensures) ∙ sym c.is_pointer.ensures ∙ c.if-is_pointer.false in
    sym (ap says_full c.in-Full.is) ∙ ap says_full (slot-is _ _ (stands-now c.self.invariant c.self.view_is) c.args.block c.args.block c.slot.result refl there c.slot.ensures) ∙ slot-full z c.args.block ∙ sym (full-other z c.args.block other)

pub returns-in_default : goal.returns-in_default
returns-in_default c =
    let z = c.args.self.now in
    let there = subst (Contains (slots z.shape z.heap.map)) c.new-else-is_pointer.ensures (c.is_slot.ensures.0 c.if-is_slot.true) in
    let other = ap (is_pointer z.heap.table) (sym c.new.ensures) ∙ sym c.is_pointer.ensures ∙ c.if-is_pointer.false in
    sym (other-full c.slot.result c.in_default.not-Full) ∙ ap says_full (slot-is _ _ (stands-now c.self.invariant c.self.view_is) c.args.block c.args.block c.slot.result refl there c.slot.ensures) ∙ slot-full z c.args.block ∙ sym (full-other z c.args.block other)

pub returns-else-is_slot : goal.returns-else-is_slot
returns-else-is_slot c =
    let z = c.args.self.now in
    let other = ap (is_pointer z.heap.table) (sym c.new.ensures) ∙ sym c.is_pointer.ensures ∙ c.if-is_pointer.false in
    c.if-is_slot.false ∙ sym (full-other z c.args.block other ∙ false_from_ne_true (is_full z.heap.table c.args.block) (λ full.
    cc (c.is_slot.ensures.1 (subst (Contains (slots z.shape z.heap.map)) (sym c.new-else-is_pointer.ensures) ((stands-now c.self.invariant c.self.view_is).fits.coherent.in_slots c.args.block (full_handle z.heap.table c.args.block full))), c.if-is_slot.false)))
