-- Places in a zone's list of blocks, by address, and what can be done there.
use Rattle.std.specs.Prelude.{◌≡◌, ℕ, ◌+◌, ◌-◌, ◌*◌, ◌<◌, ◌≤◌, ◌⊎◌, ◌^◌, ◌%◌, Bool, true, false, not, ◌&&◌, ◌==◌, nat_le, nat_lt, if◌then◌else◌, IsTrue, List, [], ◌∷◌, ◌++◌, length}
use Rattle.std.specs.List.{list_all}
use Rattle.mac_base.specs.declared.block.HeadKind.{HeadKind}
use Rattle.mac_base.specs.declared.block.HeadKind.TheVariants.{Bits24, Bits32}
use Rattle.mac_base.specs.declared.block.Flags.{Flags}
use Rattle.mac_base.specs.HeadKind.{Shape, head_size}
use Rattle.mac_base.specs.Suits.{is_block_size}
use Rattle.raw_region.specs.State.{Loan}
use Rattle.zone_records.specs.declared.slot.Slot.{Slot}
use Rattle.zone_records.specs.declared.slot.Slot.TheVariants as slot
use Rattle.zone_records.specs.Records.{Content, Free, Fixed, Master, Relocatable, BlockRecord, block_record, lent_record, handle_record, ZoneRecords, bytes_of, total_of, address_after}

-- a block's header is at this address
pub record RecordAt (z : ZoneRecords) (at : ℕ) : Type 0 where
  pub before : List BlockRecord
  pub here : BlockRecord
  pub after : List BlockRecord
  pub blocks : z.blocks ≡ before ++ here ∷ after
  pub place : at ≡ address_after z.shape before

-- a free block's
pub record FreeAt (z : ZoneRecords) (at : ℕ) : Type 0 where
  pub before : List BlockRecord
  pub size : ℕ
  pub after : List BlockRecord
  pub blocks : z.blocks ≡ before ++ block_record Free size ∷ after
  pub place : at ≡ address_after z.shape before

-- whether a block has bytes of a handle or a pointer
abbrev pub has_bytes : Content → Bool
has_bytes Free = false
has_bytes (Fixed bytes) = true
has_bytes (Master slots) = false
has_bytes (Relocatable h flags bytes) = true

-- that of a block that has bytes of a handle or a pointer, which aren't lent
pub record HeldAt (z : ZoneRecords) (at : ℕ) : Type 0 where
  pub before : List BlockRecord
  pub size : ℕ
  pub content : Content
  pub after : List BlockRecord
  pub blocks : z.blocks ≡ before ++ block_record content size ∷ after
  pub place : at ≡ address_after z.shape before
  pub held : IsTrue (has_bytes content)

-- that of a handle's block, lent or not
pub record HandleBlockAt (z : ZoneRecords) (at : ℕ) : Type 0 where
  pub before : List BlockRecord
  pub size : ℕ
  pub handle : ℕ
  pub flags : Flags
  pub bytes : List ℕ
  pub lent : Bool
  pub after : List BlockRecord
  pub blocks : z.blocks ≡ before ++ handle_record handle flags bytes size lent ∷ after
  pub place : at ≡ address_after z.shape before

-- the block at an address is lent, and this is its loan, maybe with other bytes
pub record IsLoanOf (z : ZoneRecords) (at : ℕ) (loan : Loan) : Type 0 where
  pub before : List BlockRecord
  pub size : ℕ
  pub content : Content
  pub after : List BlockRecord
  pub blocks : z.blocks ≡ before ++ lent_record content size ∷ after
  pub place : at ≡ address_after z.shape before
  pub held : IsTrue (has_bytes content)
  pub memory : loan.name ≡ z.memory.region
  pub contents : z.shape.base + loan.at ≡ at + head_size z.shape.heads
  pub long : length loan.bytes ≡ length (bytes_of content)

-- a slot is at this address
pub record SlotAt (z : ZoneRecords) (h : ℕ) : Type 0 where
  pub before : List BlockRecord
  pub size : ℕ
  pub slots_before : List Slot
  pub here : Slot
  pub slots_after : List Slot
  pub after : List BlockRecord
  pub blocks : z.blocks ≡ before ++ block_record (Master (slots_before ++ here ∷ slots_after)) size ∷ after
  pub place : h ≡ address_after z.shape before + head_size z.shape.heads + 4 * length slots_before

-- how many bytes at its end a block can say are over
abbrev pub most_over : HeadKind → ℕ
most_over Bits24 = 15
most_over Bits32 = 255

-- whether a block of this size can have n bytes of contents
abbrev pub can_have : Shape → ℕ → ℕ → Bool
can_have s size n = is_block_size s size && (nat_le (head_size s.heads + n) size && nat_le size (head_size s.heads + n + most_over s.heads))

-- the free block at an address can have n bytes of contents
pub record RoomFor (z : ZoneRecords) (at n : ℕ) : Type 0 where
  pub free : FreeAt z at
  pub room : IsTrue (can_have z.shape free.size n)

-- the free block at an address can be cut in two, the first of so many bytes
pub record CanCut (z : ZoneRecords) (at size : ℕ) : Type 0 where
  pub free : FreeAt z at
  pub smaller : size ≤ free.size
  pub front : IsTrue (is_block_size z.shape size)
  pub rest : IsTrue (is_block_size z.shape (free.size - size))

-- two free neighbours, the first at an address
pub record FreePair (z : ZoneRecords) (at : ℕ) : Type 0 where
  pub before : List BlockRecord
  pub first : ℕ
  pub second : ℕ
  pub after : List BlockRecord
  pub blocks : z.blocks ≡ before ++ block_record Free first ∷ block_record Free second ∷ after
  pub place : at ≡ address_after z.shape before

-- so many bytes can have n of contents in front, and those after them are none or make a block
pub record CanFront (s : Shape) (whole size n : ℕ) : Type 0 where
  pub within : size ≤ whole
  pub front : IsTrue (can_have s size n)
  pub rest : (size ≡ whole) ⊎ IsTrue (is_block_size s (whole - size))

-- the block at an address can have n bytes of contents in its first bytes, so many
pub record CanHold (z : ZoneRecords) (at size n : ℕ) : Type 0 where
  pub held : HeldAt z at
  pub fits : CanFront z.shape held.size size n

-- the block at an address can have n bytes of contents in its own first bytes and those of the free block after it, so
-- many
pub record CanGrow (z : ZoneRecords) (at size n : ℕ) : Type 0 where
  pub before : List BlockRecord
  pub first : ℕ
  pub content : Content
  pub second : ℕ
  pub after : List BlockRecord
  pub blocks : z.blocks ≡ before ++ block_record content first ∷ block_record Free second ∷ after
  pub place : at ≡ address_after z.shape before
  pub held : IsTrue (has_bytes content)
  pub fits : CanFront z.shape (first + second) size n

-- whether none of these is lent
abbrev pub none_lent : List BlockRecord → Bool
none_lent bs = list_all (λ (b : BlockRecord). not b.lent) bs

-- a block and the others after it are between two addresses, none of them lent
pub record ParcelAt (z : ZoneRecords) (at end : ℕ) : Type 0 where
  pub before : List BlockRecord
  pub here : BlockRecord
  pub others : List BlockRecord
  pub after : List BlockRecord
  pub blocks : z.blocks ≡ before ++ (here ∷ others ++ after)
  pub place : at ≡ address_after z.shape before
  pub long : end ≡ at + total_of (here ∷ others)
  pub unlent : IsTrue (none_lent (here ∷ others))

-- some blocks lie from an address on, and a block after them at another, none of them lent
pub record ParcelUpTo (z : ZoneRecords) (start at : ℕ) : Type 0 where
  pub before : List BlockRecord
  pub others : List BlockRecord
  pub here : BlockRecord
  pub after : List BlockRecord
  pub blocks : z.blocks ≡ before ++ (others ++ here ∷ after)
  pub place : start ≡ address_after z.shape before
  pub long : at ≡ start + total_of others
  pub unlent : IsTrue (none_lent (others ++ here ∷ []))

-- whether no flag is set
abbrev pub is_unmarked : Flags → Bool
is_unmarked flags = not flags.lock && (not flags.purge && not flags.resource)

-- whether a block's header can say these flags
abbrev pub can_flag : HeadKind → Flags → Bool
can_flag Bits24 flags = is_unmarked flags
can_flag Bits32 flags = true

-- whether a slot says no more than its form can: addresses of 24 bits that aren't 0 for a block, or of 32 bits, at
-- multiples of four and without flags
abbrev pub can_say : HeadKind → Slot → Bool
can_say Bits24 (slot.Free next) = nat_lt next 0x100_0000
can_say Bits24 slot.Empty = true
can_say Bits24 (slot.Full flags contents) = nat_lt contents 0x100_0000 && not (contents == 0)
can_say Bits32 (slot.Free next) = nat_lt next (2 ^ 32) && (next % 4 == 0)
can_say Bits32 slot.Empty = true
can_say Bits32 (slot.Full flags contents) = (nat_lt contents (2 ^ 32) && (contents % 4 == 0)) && (not (contents == 0) && is_unmarked flags)

-- whether a block is free
abbrev pub is_free : Content → Bool
is_free Free = true
is_free (Fixed bytes) = false
is_free (Master slots) = false
is_free (Relocatable h flags bytes) = false

-- the blocks from an address on, which is that of a block or of the end of the last
pub record SplitAt (z : ZoneRecords) (at : ℕ) : Type 0 where
  pub before : List BlockRecord
  pub after : List BlockRecord
  pub blocks : z.blocks ≡ before ++ after
  pub place : at ≡ address_after z.shape before

-- whether none of these is free
abbrev pub none_free : List BlockRecord → Bool
none_free bs = list_all (λ (b : BlockRecord). not (is_free b.content)) bs

-- the first free one of these blocks, which begin at an address, is at another
pub record FirstFree (bs : List BlockRecord) (from at : ℕ) : Type 0 where
  pub passed : List BlockRecord
  pub size : ℕ
  pub after : List BlockRecord
  pub blocks : bs ≡ passed ++ block_record Free size ∷ after
  pub used : IsTrue (none_free passed)
  pub place : at ≡ from + total_of passed

-- the last free one of these blocks, which begin at an address, is at another
pub record LastFree (bs : List BlockRecord) (from at : ℕ) : Type 0 where
  pub front : List BlockRecord
  pub size : ℕ
  pub passed : List BlockRecord
  pub blocks : bs ≡ front ++ block_record Free size ∷ passed
  pub used : IsTrue (none_free passed)
  pub place : at ≡ from + total_of front

-- the sum of the sizes of the free blocks
abbrev pub free_total : List BlockRecord → ℕ
free_total [] = 0
free_total (b ∷ bs) = (if is_free b.content then b.size else 0) + free_total bs

-- the block at an address is the first that begins at another or after it
pub record FirstFrom (z : ZoneRecords) (from at : ℕ) : Type 0 where
  pub block : RecordAt z at
  pub reached : from ≤ at
  pub first : (other : ℕ) → RecordAt z other → from ≤ other → at ≤ other

-- all blocks begin before an address
abbrev pub NoneFrom : ZoneRecords → ℕ → Type 0
NoneFrom z from = (at : ℕ) → RecordAt z at → at < from
