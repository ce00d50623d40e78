-- A slot that follows its handle's block to another place.
use Rattle.std.specs.Prelude.{◌≡◌, ℕ, ◌+◌, not, [], ◌++◌, IsTrue, ⊤}
use Rattle.std.specs.List.{list_all}
use Rattle.mac_base.specs.declared.block.Entry.{Entry}
use Rattle.mac_base.specs.declared.block.Kind.{Kind}
use Rattle.mac_base.specs.declared.block.Kind.TheVariants as kind
use Rattle.mac_base.specs.HandleTable.{live_at}
use Rattle.mac_base.specs.Heap.{front_slot}
use Rattle.mac_base.specs.ZoneMap.{ZoneMap, is_named, total_size, address_after, contents_of}
use Rattle.mac_base.specs.ZoneState.{ZoneState}
use Rattle.zone_records.specs.declared.slot.Slot.{Slot}
use Rattle.zone_records.specs.declared.slot.Slot.TheVariants as slot
use Rattle.zone_records.specs.Changes.{with_slot}
use Rattle.zone_records.specs.Places.{SlotAt, can_say}
use Rattle.zone_records.specs.Records.{ZoneRecords}
use Rattle.linked_zone.specs.Owned.{Owners, owners_of, records_of, records_from, slot_of_live, next_free}
use Rattle.linked_zone.specs.Places.{all_can_move}
use Rattle.linked_zone.specs.Reading.{StandsAsRead, state_in}

-- what a slot says once its block's contents begin at an address
abbrev pub moved_to : ℕ → Slot → Slot
moved_to contents (slot.Free next) = slot.Free next
moved_to contents slot.Empty = slot.Empty
moved_to contents (slot.Full flags old) = slot.Full flags contents

-- a slot is at an address, and can say so
pub record CanMove (z : ZoneRecords) (h contents : ℕ) : Type 0 where
  pub there : SlotAt z h
  pub said : IsTrue (can_say z.shape.heads (moved_to contents there.here))

-- the same of the slot of the handle whose block this is, if it is one's
abbrev pub CanFollow : ZoneRecords → Kind → ℕ → Type 0
CanFollow z kind.Free contents = ⊤
CanFollow z kind.Master contents = ⊤
CanFollow z (kind.Ptr p) contents = ⊤
CanFollow z (kind.Rel h) contents = CanMove z h contents

-- the zone in which it says so
abbrev pub followed : (z : ZoneRecords) (k : Kind) (contents : ℕ) → CanFollow z k contents → ZoneRecords
followed z kind.Free contents can = z
followed z kind.Master contents can = z
followed z (kind.Ptr p) contents can = z
followed z (kind.Rel h) contents can = with_slot (moved_to contents can.there.here) z can.there

-- what is written in a zone whose slots say these places of their blocks' contents
abbrev pub owners_saying : (ℕ → ℕ) → ZoneState → Owners
owners_saying said z = record {
  slot = λ y. slot_of_live z.shape.heads (live_at z.heap.table y) (said y) (next_free z.heap.free_slots y);
  flags = (owners_of z).flags;
  bytes = (owners_of z).bytes;
  lent = (owners_of z).lent;
}

-- the blocks are those of a zone, but the slots of the handles whose blocks lie from an address up to another, each
-- of which can be moved, may say other places
pub record Misplaced (r : ZoneRecords) (start end : ℕ) : Type 0 where
  pub zone : ZoneState
  pub before : ZoneMap
  pub run : ZoneMap
  pub after : ZoneMap
  pub said : ℕ → ℕ
  pub same : state_in (records_of zone) ≡ zone
  pub stands : StandsAsRead (record { records = records_of zone })
  pub map : zone.heap.map ≡ before ++ (run ++ after)
  pub place : start ≡ address_after zone.shape before
  pub long : end ≡ start + total_size run
  pub moves : IsTrue (all_can_move zone.heap.table run)
  pub others : (y : ℕ) → IsTrue (list_all (λ (e : Entry). not (is_named y e.kind)) run) → said y ≡ contents_of zone.shape y zone.heap.map
  pub blocks : r ≡ record {
    memory = zone.memory;
    shape = zone.shape;
    front = front_slot zone.heap;
    blocks = records_from (owners_saying said zone) zone.shape (address_after zone.shape []) zone.heap.map;
  }
