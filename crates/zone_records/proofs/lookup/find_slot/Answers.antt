use Rattle.std.proofs.Common.{◌≡◌, true, sym, subst, Contains}
use Rattle.zone_records.specs.declared.slot.Slot.{Slot}
use Rattle.zone_records.specs.Reading.{records_in}
use Rattle.zone_records.specs.Slots.{slots_of_zone}
use Rattle.zone_records.proofs.ZoneSlots.{slot-among, slot-found}
use Rattle.zone_records.proofs.lookup.find_slot.Goals as goal

pub returns-then-not-is_slot-clause-none : goal.returns-then-not-is_slot-clause-none
returns-then-not-is_slot-clause-none c = λ s there.
    let yes : c.is_slot.result ≡ true = c.is_slot.ensures.1 (slot-found c.args.blocks.now c.requires c.args.at s there).0 in
    let no = c.if-not-is_slot.true in absurd (cc (yes, no))

pub returns-clause-there : goal.returns-clause-there
returns-clause-there c =
    let z = records_in c.args.blocks.now in let s = c.is_slot.ensures.0 c.if-not-is_slot.false in
    subst (λ (n : Slot). Contains (slots_of_zone z) (c.args.at, n)) (sym (c.slot.ensures s)) (slot-among z c.args.at s)
