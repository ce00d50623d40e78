-- A zone as a list of blocks, each with what it is for and what is in it. Free bytes, and those that are over, have no
-- value.
use Rattle.std.specs.Prelude.{ℕ, suc, ◌+◌, if◌then◌else◌, Bool, true, false, not, List, [], ◌∷◌, length, IsTrue}
use Rattle.std.specs.List.{list_all}
use Rattle.mac_base.specs.declared.block.Flags.{Flags}
use Rattle.mac_base.specs.declared.block.Kind.{Kind}
use Rattle.mac_base.specs.declared.block.Kind.TheVariants as kind
use Rattle.mac_base.specs.HeadKind.{Shape, zone_header, master_length}
use Rattle.mac_base.specs.ZoneSizes.{ZoneSizes}
use Rattle.mac_base.specs.ZoneState.{Memory}
use Rattle.zone_records.specs.declared.slot.Slot.{Slot}

-- what a block is for, and its contents: bytes, or the slots of a master block. A handle's block also says its flags in
-- a zone of 32-bit blocks; in one of 24-bit blocks it says none
pub data Content : Type 0 where
  Free : Content
  Fixed : List ℕ → Content
  Master : List Slot → Content
  Relocatable : ℕ → Flags → List ℕ → Content

-- a block: its physical size, what is in it, and whether that is lent
pub record BlockRecord : Type 0 where
  pub size : ℕ
  pub content : Content
  pub lent : Bool

-- a block of n bytes that isn't lent
abbrev pub block_record : Content → ℕ → BlockRecord
block_record content n = record { size = n; content = content; lent = false }

-- one that is lent
abbrev pub lent_record : Content → ℕ → BlockRecord
lent_record content n = record { size = n; content = content; lent = true }

-- a handle's block, lent or not
abbrev pub handle_record : ℕ → Flags → List ℕ → ℕ → Bool → BlockRecord
handle_record handle flags bytes n lent = record { size = n; content = Relocatable handle flags bytes; lent = lent }

-- a zone: the memory that it is in, where it lies and how far it may grow, the free slot that its header names
-- first, and its blocks
pub record ZoneRecords : Type 0 where
  pub memory : Memory
  pub shape : Shape
  pub front : ℕ
  pub blocks : List BlockRecord

-- the sum of the sizes
abbrev pub total_of : List BlockRecord → ℕ
total_of [] = 0
total_of (b ∷ bs) = b.size + total_of bs

-- where the blocks after these begin
abbrev pub address_after : Shape → List BlockRecord → ℕ
address_after s before = s.base + zone_header + total_of before

-- the kind of a block whose contents begin at an address
abbrev pub kind_of : ℕ → Content → Kind
kind_of at Free = kind.Free
kind_of at (Fixed bytes) = kind.Ptr at
kind_of at (Master slots) = kind.Master
kind_of at (Relocatable h flags bytes) = kind.Rel h

-- how many bytes of contents a block has; a free one has none
abbrev pub length_of : Content → ℕ
length_of Free = 0
length_of (Fixed bytes) = length bytes
length_of (Master slots) = master_length
length_of (Relocatable h flags bytes) = length bytes

-- the bytes of a handle's or a pointer's block
abbrev pub bytes_of : Content → List ℕ
bytes_of Free = []
bytes_of (Fixed bytes) = bytes
bytes_of (Master slots) = []
bytes_of (Relocatable h flags bytes) = bytes

-- the same block with other bytes
abbrev pub with_bytes : List ℕ → Content → Content
with_bytes bytes Free = Free
with_bytes bytes (Fixed old) = Fixed bytes
with_bytes bytes (Master slots) = Master slots
with_bytes bytes (Relocatable h flags old) = Relocatable h flags bytes

-- the zone with other blocks
abbrev pub with_blocks : List BlockRecord → ZoneRecords → ZoneRecords
with_blocks bs z = record z { blocks = bs }

-- where a zone lies, how large it is now, and how large it may become
abbrev pub sizes_of : ZoneRecords → ZoneSizes
sizes_of z = record { heads = z.shape.heads; base = z.shape.base; size = zone_header + total_of z.blocks; limit = z.shape.limit }

-- how many blocks are lent
abbrev pub lent_count : List BlockRecord → ℕ
lent_count [] = 0
lent_count (b ∷ bs) = if b.lent then suc (lent_count bs) else lent_count bs

-- no block is lent
abbrev pub NothingLent : ZoneRecords → Type 0
NothingLent z = IsTrue (list_all (λ b. not b.lent) z.blocks)
