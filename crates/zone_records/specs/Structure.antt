-- The structure of a zone, its headers and what master pointers say but for flags, and what bytes with this structure
-- say of the rest: contents, and the flags in 24-bit master pointers.
use Rattle.std.specs.Prelude.{◌≡◌, ℕ, ◌+◌, ◌-◌, ◌≤◌, ◌<◌, List, [], ◌∷◌, length, take, slice_index}
use Rattle.mac_base.specs.declared.block.Flags.{Flags}
use Rattle.mac_base.specs.declared.block.HeadKind.{HeadKind}
use Rattle.mac_base.specs.declared.block.HeadKind.TheVariants.{Bits24, Bits32}
use Rattle.mac_base.specs.FlagState.{flags_from}
use Rattle.mac_base.specs.HeadKind.{head_size, zone_header}
use Rattle.raw_region.specs.Bytes.{part}
use Rattle.zone_records.specs.declared.slot.Slot.{Slot}
use Rattle.zone_records.specs.declared.slot.Slot.TheVariants as slot
use Rattle.zone_records.specs.declared.structure.Agreement.{Agreement}
use Rattle.zone_records.specs.declared.structure.Agreement.TheVariants.{Damaged, FlagsChanged, Same}
use Rattle.zone_records.specs.Image.{HasBytes}
use Rattle.zone_records.specs.Places.{SlotAt}
use Rattle.zone_records.specs.Records.{Content, Free, Fixed, Master, Relocatable, BlockRecord, ZoneRecords, total_of}

-- the flags of a handle whose master pointer is at an offset: those that its high byte says; with 32-bit blocks these
abbrev pub said_flags : HeadKind → List ℕ → ℕ → Flags → Flags
said_flags Bits24 bytes at flags = flags_from (slice_index bytes at)
said_flags Bits32 bytes at flags = flags

-- what a slot says, with the flags that bytes have in its place
abbrev pub shown_slot : HeadKind → List ℕ → ℕ → Slot → Slot
shown_slot heads bytes at (slot.Free next) = slot.Free next
shown_slot heads bytes at slot.Empty = slot.Empty
shown_slot heads bytes at (slot.Full flags contents) = slot.Full (said_flags heads bytes at flags) contents

-- the same of many, the first at an offset
abbrev pub shown_slots : HeadKind → List ℕ → ℕ → List Slot → List Slot
shown_slots heads bytes at [] = []
shown_slots heads bytes at (s ∷ ss) = shown_slot heads bytes at s ∷ shown_slots heads bytes (at + 4) ss

-- what is in a block whose contents begin at an offset, with the contents and flags that bytes have there
abbrev pub shown_content : HeadKind → List ℕ → ℕ → Content → Content
shown_content heads bytes at Free = Free
shown_content heads bytes at (Fixed old) = Fixed (part bytes at (length old))
shown_content heads bytes at (Master slots) = Master (shown_slots heads bytes at slots)
shown_content heads bytes at (Relocatable h flags old) = Relocatable h flags (part bytes at (length old))

-- blocks, the first at an offset, with the contents and flags that bytes have in their places
abbrev pub shown_blocks : HeadKind → List ℕ → ℕ → List BlockRecord → List BlockRecord
shown_blocks heads bytes at [] = []
shown_blocks heads bytes at (b ∷ bs) = record b { content = shown_content heads bytes (at + head_size heads) b.content } ∷ shown_blocks heads bytes (at + b.size) bs

-- the zone with them
abbrev pub shown : ZoneRecords → List ℕ → ZoneRecords
shown z bytes = record z { blocks = shown_blocks z.shape.heads bytes zone_header z.blocks }

-- a zone is in these bytes: they are as many as its limit, and those of its blocks are in their places
pub record IsIn (z : ZoneRecords) (bytes : List ℕ) : Type 0 where
  pub all : length bytes ≡ z.shape.limit
  pub image : HasBytes z (take (zone_header + total_of z.blocks) bytes)

-- bytes have the structure of a zone: they are those of the zone with their contents and flags
abbrev pub HasStructure : ZoneRecords → List ℕ → Type 0
HasStructure z bytes = IsIn (shown z bytes) bytes

-- the flags in master pointers are as bytes say
abbrev pub SameFlags : ZoneRecords → List ℕ → Type 0
SameFlags z bytes = (x : ℕ) (s : SlotAt z x) → shown_slot z.shape.heads bytes (x - z.shape.base) s.here ≡ s.here

-- what an agreement means for two facts, the first of the structure, the second of flags: the first doesn't hold; or it
-- does, and the second doesn't; or both do
abbrev pub Means : Agreement → Type 0 → Type 0 → Type 0
Means Damaged P Q = P → ⊥
Means FlagsChanged P Q = P × (Q → ⊥)
Means Same P Q = P × Q

-- how bytes agree with a zone: they haven't its structure; or they have, and flags differ, or not
abbrev pub Agrees : ZoneRecords → List ℕ → Agreement → Type 0
Agrees z bytes agreement = Means agreement (HasStructure z bytes) (SameFlags z bytes)

-- the agreement of two parts together
abbrev pub worse : Agreement → Agreement → Agreement
worse Damaged other = Damaged
worse FlagsChanged Damaged = Damaged
worse FlagsChanged FlagsChanged = FlagsChanged
worse FlagsChanged Same = FlagsChanged
worse Same other = other

-- bytes say other flags of the handle at an address, and of no handle before it from another address on
pub record FirstChanged (z : ZoneRecords) (bytes : List ℕ) (from at : ℕ) (flags : Flags) : Type 0 where
  pub named : SlotAt z at
  pub old : Flags
  pub contents : ℕ
  pub full : named.here ≡ slot.Full old contents
  pub said : flags ≡ said_flags z.shape.heads bytes (at - z.shape.base) old
  pub differ : flags ≡ old → ⊥
  pub reached : from ≤ at
  pub first : (x : ℕ) (s : SlotAt z x) → from ≤ x → x < at → shown_slot z.shape.heads bytes (x - z.shape.base) s.here ≡ s.here

-- they say other flags of no handle from an address on
abbrev pub NoneChanged : ZoneRecords → List ℕ → ℕ → Type 0
NoneChanged z bytes from = (x : ℕ) (s : SlotAt z x) → from ≤ x → shown_slot z.shape.heads bytes (x - z.shape.base) s.here ≡ s.here
