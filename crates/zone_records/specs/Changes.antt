-- What each change makes of a zone's blocks.
use Rattle.std.specs.Prelude.{ℕ, zero, suc, ◌+◌, ◌-◌, ◌==◌, if◌then◌else◌, List, [], ◌∷◌, ◌++◌}
use Rattle.mac_base.specs.declared.block.Flags.{Flags}
use Rattle.mac_base.specs.HeadKind.{zone_header, head_size}
use Rattle.mac_base.specs.HandleTable.{resized}
use Rattle.mac_base.specs.ZoneSizes.{ZoneSizes, shape_of}
use Rattle.mac_base.specs.ZoneState.{Memory}
use Rattle.raw_region.specs.State.{Loan}
use Rattle.zone_records.specs.declared.slot.Slot.{Slot}
use Rattle.zone_records.specs.declared.slot.Slot.TheVariants as slot
use Rattle.zone_records.specs.Records.{Content, Free, Master, BlockRecord, block_record, lent_record, handle_record, ZoneRecords, with_blocks, with_bytes, bytes_of, total_of}
use Rattle.zone_records.specs.Places.{FreeAt, HeldAt, HandleBlockAt, SlotAt, FreePair, CanHold, CanGrow, ParcelAt, ParcelUpTo, IsLoanOf}

-- a new zone: one free block, and no slot
abbrev pub new_records : Memory → ZoneSizes → ZoneRecords
new_records memory sizes = record { memory = memory; shape = shape_of sizes; front = 0; blocks = block_record Free (sizes.size - zone_header) ∷ [] }

-- the zone whose header names this free slot first
abbrev pub with_front : ℕ → ZoneRecords → ZoneRecords
with_front h z = record z { front = h }

-- a free block of n bytes, and none where n is 0
abbrev pub free_record : ℕ → List BlockRecord
free_record n = if n == 0 then [] else block_record Free n ∷ []

-- the zone grown to its limit: the bytes up to there are a free block after the others
abbrev pub extended : ZoneRecords → ZoneRecords
extended z = with_blocks (z.blocks ++ free_record (z.shape.limit - (zone_header + total_of z.blocks))) z

-- the free block at an address has this in it
abbrev pub filled : Content → {at : ℕ} → (z : ZoneRecords) → FreeAt z at → ZoneRecords
filled content z free = with_blocks (free.before ++ block_record content free.size ∷ free.after) z

-- n free slots, the first at an address; each names the one after it, and the last one this one
abbrev pub chained : ℕ → ℕ → ℕ → List Slot
chained zero at last = []
chained (suc zero) at last = slot.Free last ∷ []
chained (suc (suc n)) at last = slot.Free (at + 4) ∷ chained (suc n) (at + 4) last

-- the block at an address is free
abbrev pub emptied : {at : ℕ} → (z : ZoneRecords) → HeldAt z at → ZoneRecords
emptied z held = with_blocks (held.before ++ block_record Free held.size ∷ held.after) z

-- the handle's block at an address says these flags
abbrev pub flagged : Flags → {at : ℕ} → (z : ZoneRecords) → HandleBlockAt z at → ZoneRecords
flagged flags z block = with_blocks (block.before ++ handle_record block.handle flags block.bytes block.size block.lent ∷ block.after) z

-- the slot at an address says this
abbrev pub with_slot : Slot → {h : ℕ} → (z : ZoneRecords) → SlotAt z h → ZoneRecords
with_slot s z at = with_blocks (at.before ++ block_record (Master (at.slots_before ++ s ∷ at.slots_after)) at.size ∷ at.after) z

-- a free block is two, the first of so many bytes
abbrev pub cut_in_two : ℕ → {at : ℕ} → (z : ZoneRecords) → FreeAt z at → ZoneRecords
cut_in_two size z free = with_blocks (free.before ++ block_record Free size ∷ block_record Free (free.size - size) ∷ free.after) z

-- two free neighbours are one block
abbrev pub joined_pair : {at : ℕ} → (z : ZoneRecords) → FreePair z at → ZoneRecords
joined_pair z pair = with_blocks (pair.before ++ block_record Free (pair.first + pair.second) ∷ pair.after) z

-- the same block with n bytes: those that it had, as far as they go, and zeros after them
abbrev pub sized : ℕ → Content → Content
sized n content = with_bytes (resized n (bytes_of content)) content

-- the block has so many of its bytes, n of them contents, and the others are free
abbrev pub held_there : {at size n : ℕ} → (z : ZoneRecords) → CanHold z at size n → ZoneRecords
held_there {size = size} {n = n} z can = let held = can.held in
    with_blocks (held.before ++ block_record (sized n held.content) size ∷ free_record (held.size - size) ++ held.after) z

-- the block has so many of its bytes and of those right after it, n of them contents, and the others are free
abbrev pub enlarged : {at size n : ℕ} → (z : ZoneRecords) → CanGrow z at size n → ZoneRecords
enlarged {size = size} {n = n} z can =
    with_blocks (can.before ++ block_record (sized n can.content) size ∷ free_record (can.first + can.second - size) ++ can.after) z

-- the block is after the others
abbrev pub carried : {at end : ℕ} → (z : ZoneRecords) → ParcelAt z at end → ZoneRecords
carried z parcel = with_blocks (parcel.before ++ (parcel.others ++ parcel.here ∷ parcel.after)) z

-- the block is before the others
abbrev pub sunk : {start at : ℕ} → (z : ZoneRecords) → ParcelUpTo z start at → ZoneRecords
sunk z parcel = with_blocks (parcel.before ++ (parcel.here ∷ parcel.others ++ parcel.after)) z

-- the block at an address is lent
abbrev pub lent_out : {at : ℕ} → (z : ZoneRecords) → HeldAt z at → ZoneRecords
lent_out z held = with_blocks (held.before ++ lent_record held.content held.size ∷ held.after) z

-- its loan: its bytes, in their place
abbrev pub loan_of : {at : ℕ} → (z : ZoneRecords) → HeldAt z at → Loan
loan_of z held = record { name = z.memory.region; at = zone_header + total_of held.before + head_size z.shape.heads; bytes = bytes_of held.content }

-- the lent block at an address came back, with the bytes of its loan
abbrev pub taken_back : {at : ℕ} {loan : Loan} → (z : ZoneRecords) → IsLoanOf z at loan → ZoneRecords
taken_back {loan = loan} z is = with_blocks (is.before ++ block_record (with_bytes loan.bytes is.content) is.size ∷ is.after) z
