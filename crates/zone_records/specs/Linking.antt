-- What is asked of each block and each slot of a zone that is in bytes which others wrote.
use Rattle.std.specs.Prelude.{◌≡◌, ℕ, ◌+◌, ◌*◌, ◌<◌, IsTrue, List, [], ◌∷◌, length, Contains, ⊤}
use Rattle.std.specs.List.{All}
use Rattle.mac_base.specs.declared.block.Flags.{Flags}
use Rattle.mac_base.specs.HeadKind.{head_size, slot_count}
use Rattle.mac_base.specs.Suits.{has_length}
use Rattle.block_bytes.specs.declared.header.Role.{Role}
use Rattle.block_bytes.specs.declared.header.Role.TheVariants as role
use Rattle.block_bytes.specs.Layout.{RawBlock, Layout, BlockAt, size_of}
use Rattle.zone_records.specs.declared.slot.Slot.{Slot}
use Rattle.zone_records.specs.declared.slot.Slot.TheVariants as slot
use Rattle.zone_records.specs.Adopting.{AreChained, HasBlock, IsUsed}
use Rattle.zone_records.specs.Masters.{slot_of}
use Rattle.zone_records.specs.Reading.{records_in}
use Rattle.zone_records.specs.Records.{ZoneRecords}
use Rattle.zone_records.specs.Slots.{slots_of_zone}

-- the slot of a handle says that its block's contents begin at an address
abbrev pub Names : ZoneRecords → ℕ → ℕ → Type 0
Names z h contents = (flags : Flags) × Contains (slots_of_zone z) (h, slot.Full flags contents)

-- where the slot of a handle says an address, contents of a block of this handle begin there
abbrev pub Keeps : ZoneRecords → ℕ → Slot → Type 0
Keeps z h s = (flags : Flags) (contents : ℕ) → s ≡ slot.Full flags contents → HasBlock z h contents

-- the same of the first n slots of a master block with these contents, which begin at an address
abbrev pub SlotsKeep : Layout → ℕ → ℕ → List ℕ → Type 0
SlotsKeep l n at contents = (k : ℕ) → k < n → Keeps (records_in l) (at + 4 * k) (slot_of l.heads contents k)

-- a handle's block and its slot say each other, as far as the block at an address shows: by its header, or by its slots
abbrev pub LinkedAs : Layout → ℕ → Role → List ℕ → Type 0
LinkedAs l at role.Free contents = ⊤
LinkedAs l at role.Fixed contents = ⊤
LinkedAs l at role.Master contents = SlotsKeep l slot_count (at + head_size l.heads) contents
LinkedAs l at (role.Relocatable offset flags) contents = Names (records_in l) (l.base + offset) (at + head_size l.heads)

-- the block after a free one isn't free, and in any other no smallest block would fit after its n bytes of contents
abbrev pub TightAs : Layout → ℕ → Role → ℕ → ℕ → Type 0
TightAs l at role.Free size n = (next : BlockAt l (at + size)) → next.here.role ≡ role.Free → ⊥
TightAs l at role.Fixed size n = IsTrue (has_length (records_in l).shape size n)
TightAs l at role.Master size n = IsTrue (has_length (records_in l).shape size n)
TightAs l at (role.Relocatable offset flags) size n = IsTrue (has_length (records_in l).shape size n)

-- each slot of a master block says its handle's block, if it says an address
abbrev pub KeptAs : Layout → ℕ → Role → List ℕ → Type 0
KeptAs l at role.Free contents = ⊤
KeptAs l at role.Fixed contents = ⊤
KeptAs l at role.Master contents = SlotsKeep l slot_count (at + head_size l.heads) contents
KeptAs l at (role.Relocatable offset flags) contents = ⊤

-- both of the block at an address
pub record IsRight (l : Layout) (at : ℕ) (b : RawBlock) : Type 0 where
  pub linked : LinkedAs l at b.role b.contents
  pub tight : TightAs l at b.role (size_of l.heads b) (length b.contents)

-- both of all blocks
abbrev pub AreRight : Layout → Type 0
AreRight l = (at : ℕ) (b : BlockAt l at) → IsRight l at b.here

-- the blocks have what they are for and are right, and free slots follow one another
pub record IsWhole (l : Layout) : Type 0 where
  pub used : All (IsUsed l.heads l.base) l.blocks
  pub right : AreRight l
  pub chained : AreChained (records_in l)

-- the addresses of the free ones among slots
unfoldable pub free_of : List (ℕ × Slot) → List ℕ
free_of [] = []
free_of ((h, slot.Free next) ∷ slots) = h ∷ free_of slots
free_of ((h, slot.Empty) ∷ slots) = free_of slots
free_of ((h, slot.Full flags contents) ∷ slots) = free_of slots

-- one where a slot is free, and else none
abbrev pub one_free : Slot → ℕ
one_free (slot.Free next) = 1
one_free slot.Empty = 0
one_free (slot.Full flags contents) = 0

-- how many slots are free
abbrev pub free_count : List Slot → ℕ
free_count [] = 0
free_count (s ∷ ss) = one_free s + free_count ss

-- the addresses that slots say
unfoldable pub said_of : List (ℕ × Slot) → List ℕ
said_of [] = []
said_of ((h, slot.Free next) ∷ slots) = said_of slots
said_of ((h, slot.Empty) ∷ slots) = said_of slots
said_of ((h, slot.Full flags contents) ∷ slots) = contents ∷ said_of slots

-- one where a slot says an address, and else none
abbrev pub one_full : Slot → ℕ
one_full (slot.Free next) = 0
one_full slot.Empty = 0
one_full (slot.Full flags contents) = 1

-- how many slots say one
abbrev pub full_count : List Slot → ℕ
full_count [] = 0
full_count (s ∷ ss) = one_full s + full_count ss

-- one for a handle's block, and none for any other
abbrev pub one_handle : Role → ℕ
one_handle role.Free = 0
one_handle role.Fixed = 0
one_handle role.Master = 0
one_handle (role.Relocatable offset flags) = 1
