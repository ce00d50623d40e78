-- How a zone's blocks change where one block is for something else.
use Rattle.std.proofs.Common.{◌≡◌, ℕ, ◌+◌, ◌*◌, ◌/◌, ◌≤◌, ◌<◌, ◌&&◌, nat_le, nat_lt, max, Bool, true, false, eqb, [], ◌∷◌, ◌++◌, refl, ap, sym, ◌∙◌, subst, arith}
use Rattle.std.specs.List.{list_all}
use Rattle.std.proofs.lemmas.Bool.Decides.{nat_tests}
use Rattle.std.proofs.lemmas.Bool.{and_from}
use Rattle.mac_base.specs.declared.block.Entry.{Entry}
use Rattle.mac_base.specs.declared.block.HeadKind.{HeadKind}
use Rattle.mac_base.specs.declared.block.HeadKind.TheVariants.{Bits24, Bits32}
use Rattle.mac_base.specs.declared.block.Kind.{Kind}
use Rattle.mac_base.specs.declared.block.Kind.TheVariants as kind
use Rattle.mac_base.specs.HeadKind.{Shape, head_size, smallest_block, need}
use Rattle.mac_base.specs.HandleTable.{live_bytes, live_flags, is_lent}
use Rattle.mac_base.specs.Heap.{Heap, front_slot}
use Rattle.mac_base.specs.Suits.{is_block_size, has_length}
use Rattle.mac_base.specs.ZoneMap.{ZoneMap, block, is_master, total_size, address_after}
use Rattle.mac_base.specs.ZoneState.{ZoneState, with_heap}
use Rattle.zone_laws.proofs.Maps.{Exchanged, list_all-exchanged}
use Rattle.zone_laws.proofs.Owners.{none_named}
use Rattle.zone_laws.proofs.Tables.{AgreeBut}
use Rattle.zone_records.specs.Places as places
use Rattle.zone_records.specs.Records as records
use Rattle.zone_records.specs.declared.slot.Slot.TheVariants as slot
use Rattle.mac_base.specs.ZoneSizes.{ZoneSizes}
use Rattle.mac_base.specs.declared.block.Flags.{Flags}
use Rattle.zone_records.specs.Places.{can_have, can_say, has_bytes, most_over}
use Rattle.zone_records.specs.Records.{ZoneRecords, sizes_of}
use Rattle.linked_zone.specs.Fit.{Fits, has_room}
use Rattle.linked_zone.specs.Owned.{Owners, owners_of, records_of, record_of, content_of, lent_of, header_flags, slot_flags}
use Rattle.linked_zone.specs.Places.{FreeAt, RoomFor, EntryAt}
use Rattle.linked_zone.proofs.Standing.{Stands, Kept}
use Rattle.linked_zone.proofs.Owning.{image, SameOf, same_but}
use Rattle.linked_zone.proofs.Ends.{lower, upper, parts-before, parts-after, parts-place, ended}
use Rattle.linked_zone.proofs.EndsSaid.{part-passes, size-room, contents-said, entry-below}

-- one block is for something else
abbrev pub block_swapped : (old new before : ZoneMap) (a b : Kind) (n : ℕ) (after : ZoneMap) → old ≡ before ++ block a n ∷ after → new ≡ before ++ block b n ∷ after → Exchanged old new
block_swapped old new before a b n after was is = record { before = before; left = block a n ∷ []; right = block b n ∷ []; after = after; was = was; is = is; as_large = refl }

-- the owners of a zone's slots, with the flags, the bytes and the loans of another
abbrev pub with_table : ZoneState → ZoneState → Owners
with_table z w = record { slot = (owners_of z).slot; flags = (owners_of w).flags; bytes = (owners_of w).bytes; lent = (owners_of w).lent }

module _ (r : ZoneRecords) (z : ZoneState) (held : Stands r z) (heap : Heap) (h : ℕ) (before : ZoneMap) (a b : Kind) (n : ℕ) (after : ZoneMap) (was : z.heap.map ≡ before ++ block a n ∷ after)
    (is : heap.map ≡ before ++ block b n ∷ after) (other : is_master b ≡ false) where
  abbrev e : Exchanged z.heap.map heap.map
  e = block_swapped z.heap.map heap.map before a b n after was is

  -- the block's size is possible
  pub swapped-size : is_block_size z.shape n ≡ true
  swapped-size = first (is_block_size z.shape n) (part-passes (λ (e : Entry). is_block_size z.shape e.size) before (block a n ∷ []) after z.heap.map was held.sizes)
    where
      first : (b : Bool) → (b && true) ≡ true → b ≡ true
      first true h = refl
      first false h = absurd (cc h)

  sizes_now : list_all (λ (e : Entry). is_block_size z.shape e.size) (block b n ∷ []) ≡ true
  sizes_now = and_from (is_block_size z.shape n) true swapped-size refl

  rooms_now : list_all (has_room z.shape) (block b n ∷ []) ≡ true
  rooms_now = and_from (has_room z.shape (block b n)) true (size-room z.shape b n other swapped-size) refl

  -- every block has room
  pub swapped-rooms : list_all (has_room z.shape) heap.map ≡ true
  swapped-rooms = list_all-exchanged z.heap.map heap.map e (has_room z.shape) rooms_now held.rooms

  -- what was in the block
  pub swapped-before : (records_of z).blocks ≡ lower (owners_of z) z.shape before ++ record_of (owners_of z) z.shape (address_after z.shape [] + total_size before) (block a n) ∷ upper (owners_of z) z.shape before e.left after
  swapped-before = parts-before z heap e

  pub swapped-place : (at : ℕ) → at ≡ address_after z.shape before → at ≡ records.address_after z.shape (lower (owners_of z) z.shape before)
  swapped-place at is = parts-place z heap e at is

  -- the block's place, where it has bytes that aren't lent
  abbrev pub block-there : (at : ℕ) → at ≡ address_after z.shape before → has_bytes (content_of (owners_of z) ((address_after z.shape [] + total_size before) + head_size z.shape.heads) a) ≡ true → lent_of (owners_of z) a ≡ false → places.HeldAt (records_of z) at
  block-there at is bytes unlent = record {
    before = lower (owners_of z) z.shape before;
    size = n;
    content = content_of (owners_of z) ((address_after z.shape [] + total_size before) + head_size z.shape.heads) a;
    after = upper (owners_of z) z.shape before (block a n ∷ []) after;
    blocks = swapped-before ∙ ap (λ l. lower (owners_of z) z.shape before ++ record { size = n; content = content_of (owners_of z) ((address_after z.shape [] + total_size before) + head_size z.shape.heads) a; lent = l } ∷ upper (owners_of z) z.shape before (block a n ∷ []) after) unlent;
    place = swapped-place at is;
    held = bytes;
  }

  -- with what its new owner has in it the blocks are those of the new map, where no other block is the owner's
  pub swapped-after : (m : ZoneRecords) → none_named h before ≡ true → none_named h after ≡ true → AgreeBut h z.heap.table heap.table
      → ((y : ℕ) → eqb y h ≡ false → is_lent heap.table y ≡ is_lent z.heap.table y)
      → m ≡ record {
        memory = z.memory;
        shape = z.shape;
        front = front_slot z.heap;
        blocks = lower (owners_of z) z.shape before
            ++ record_of (with_table z (with_heap heap z)) z.shape (address_after z.shape [] + total_size before) (block b n) ∷ upper (owners_of z) z.shape before e.left after;
      }
      → m ≡ image z.memory z.shape (front_slot z.heap) (with_table z (with_heap heap z)) heap.map
  swapped-after m none_before none_after agree lents = parts-after z heap e m (front_slot z.heap) (with_table z (with_heap heap z)) (λ y _. refl) (λ y _. refl)
      (same_but (owners_of z) (with_table z (with_heap heap z)) h before none_before same) (same_but (owners_of z) (with_table z (with_heap heap z)) h after none_after same)
    where
      same : (y : ℕ) → eqb y h ≡ false → SameOf (owners_of z) (with_table z (with_heap heap z)) y
      same y apart = (ap (λ l. header_flags z.shape.heads (live_flags l)) (agree.others y apart), ap live_bytes (agree.others y apart), lents y apart)

  -- they stand for the zone
  pub swapped-ended : (m : ZoneRecords) → Fits (with_heap heap z) → m ≡ records_of (with_heap heap z) → Kept m (with_heap heap z)
  swapped-ended m fits is = ended z heap e r m held fits sizes_now rooms_now is

-- ---- room for a new owner

room_had : (heads : HeadKind) (size n : ℕ) → (nat_le (need heads n) size && nat_lt size (need heads n + smallest_block heads)) ≡ true
    → (nat_le (head_size heads + n) size && nat_le size (head_size heads + n + most_over heads)) ≡ true
room_had heads size n fits = by_heads heads fits
  where
    by_heads : (heads : HeadKind) → (nat_le (need heads n) size && nat_lt size (need heads n + smallest_block heads)) ≡ true → (nat_le (head_size heads + n) size && nat_le size (head_size heads + n + most_over heads)) ≡ true
    by_heads Bits24 fits = by_number ((n + 8 + 3) / 4) (omega arith) (omega arith) fits
      where
        by_number : (k : ℕ) → n + 8 ≤ 4 * k → 4 * k ≤ n + 11 → (nat_le (max 12 (4 * k)) size && nat_lt size (max 12 (4 * k) + 12)) ≡ true → (nat_le (8 + n) size && nat_le size (8 + n + 15)) ≡ true
        by_number k low high fits = grind (arith, nat_tests)
    by_heads Bits32 fits = by_number ((n + 12 + 3) / 4) (omega arith) (omega arith) fits
      where
        by_number : (k : ℕ) → n + 12 ≤ 4 * k → 4 * k ≤ n + 15 → (nat_le (max 16 (4 * k)) size && nat_lt size (max 16 (4 * k) + 16)) ≡ true → (nat_le (12 + n) size && nat_le size (12 + n + 255)) ≡ true
        by_number k low high fits = grind (arith, nat_tests)

-- a block that has an owner's length can have so many bytes
pub length-had : (s : Shape) (size n : ℕ) → is_block_size s size ≡ true → has_length s size n ≡ true → can_have s size n ≡ true
length-had s size n possible fits = and_from (is_block_size s size) _ possible (room_had s.heads size n fits)

-- how blocks are headed, and the bytes of a header, as they are read
pub kind-is : (r : ZoneRecords) (z : ZoneState) → Stands r z → (spec : ZoneSizes) (heads : HeadKind) → spec ≡ sizes_of r → heads ≡ spec.heads → z.shape.heads ≡ heads
kind-is r z held spec heads is same = sym (same ∙ ap (λ (s : ZoneSizes). s.heads) is ∙ ap (λ (r : ZoneRecords). r.shape.heads) held.blocks)

pub head-is : (r : ZoneRecords) (z : ZoneState) → Stands r z → (spec : ZoneSizes) (heads : HeadKind) (head : ℕ) → spec ≡ sizes_of r → heads ≡ spec.heads → head ≡ head_size heads → head ≡ head_size z.shape.heads
head-is r z held spec heads head is kind same = same ∙ ap head_size (sym (kind-is r z held spec heads is kind))

-- the place of a free block among the blocks
abbrev pub free-there : (r : ZoneRecords) (z : ZoneState) → Stands r z → (at : ℕ) (free : FreeAt z at) → places.FreeAt (records_of z) at
free-there r z held at free = record {
  before = lower (owners_of z) z.shape free.before;
  size = free.size;
  after = upper (owners_of z) z.shape free.before (block kind.Free free.size ∷ []) free.after;
  blocks = swapped-before r z held z.heap 0 free.before kind.Free kind.Free free.size free.after free.map free.map refl;
  place = swapped-place r z held z.heap 0 free.before kind.Free kind.Free free.size free.after free.map free.map refl at free.place;
}

module _ (r : ZoneRecords) (z : ZoneState) (held : Stands r z) (at n : ℕ) (room : RoomFor z at n) where
  abbrev free_entry : EntryAt z at
  free_entry = record { before = room.free.before; here = block kind.Free room.free.size; after = room.free.after; map = room.free.map; place = room.free.place }

  -- the place of the free block among the blocks, where something else is to be
  abbrev pub room-there : places.RoomFor (records_of z) at n
  room-there = record {
    free = free-there r z held at room.free;
    room = length-had z.shape room.free.size n (swapped-size r z held z.heap 0 room.free.before kind.Free kind.Free room.free.size room.free.after room.free.map room.free.map refl) room.room;
  }

  -- the blocks have room there
  pub room-can : places.RoomFor r at n
  room-can = subst (λ r. places.RoomFor r at n) (sym held.blocks) room-there

  -- its size
  pub room-size : is_block_size z.shape room.free.size ≡ true
  room-size = swapped-size r z held z.heap 0 room.free.before kind.Free kind.Free room.free.size room.free.after room.free.map room.free.map refl

  -- where its contents begin can be said, and is no more than 32 bits
  pub room-said : (flags : Flags) → can_say z.shape.heads (slot.Full (slot_flags z.shape.heads flags) (at + head_size z.shape.heads)) ≡ true
  room-said flags = contents-said r z held at free_entry flags

  pub room-begins : (spec : ZoneSizes) (heads : HeadKind) (head : ℕ) → spec ≡ sizes_of r → heads ≡ spec.heads → head ≡ head_size heads → at + head < 0x1_0000_0000
  room-begins spec heads head is kind_is same = (let here = head-is r z held spec heads head is kind_is same in let below = entry-below r z held at free_entry in omega arith)
