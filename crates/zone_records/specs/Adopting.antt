-- A zone that is in bytes which others wrote.
use Rattle.std.specs.Prelude.{◌≡◌, ℕ, ◌+◌, ◌||◌, List, [], ◌∷◌, length, IsTrue, Contains, nat_eq}
use Rattle.std.specs.List.{list_all, IsDistinct}
use Rattle.mac_base.specs.declared.block.Flags.{Flags}
use Rattle.mac_base.specs.declared.block.HeadKind.{HeadKind}
use Rattle.mac_base.specs.HeadKind.{head_size}
use Rattle.mac_base.specs.Suits.{has_length}
use Rattle.mac_base.specs.ZoneSizes.{ZoneSizes}
use Rattle.block_bytes.specs.Layout.{RawBlock, Layout}
use Rattle.block_bytes.specs.Adopting as blocks
use Rattle.zone_records.specs.declared.slot.Slot.{Slot}
use Rattle.zone_records.specs.declared.slot.Slot.TheVariants as slot
use Rattle.zone_records.specs.Places.{HandleBlockAt, FreePair, is_free}
use Rattle.zone_records.specs.Reading.{AreSound, HasWords, has_use, records_in}
use Rattle.zone_records.specs.Records.{BlockRecord, ZoneRecords, length_of}
use Rattle.zone_records.specs.Slots.{slots_of_zone}

-- the slot of the handle whose block is at an address says where its contents are
pub record HasSlot (z : ZoneRecords) (at : ℕ) (b : HandleBlockAt z at) : Type 0 where
  pub flags : Flags
  pub slot_is : Contains (slots_of_zone z) (b.handle, slot.Full flags (at + head_size z.shape.heads))

-- the handle h has a block whose contents begin at an address
pub record HasBlock (z : ZoneRecords) (h contents : ℕ) : Type 0 where
  pub at : ℕ
  pub block : HandleBlockAt z at
  pub handle_is : block.handle ≡ h
  pub place : contents ≡ at + head_size z.shape.heads

-- from x on free slots follow one another: these, of which the last names none
unfoldable pub Follow : List (ℕ × Slot) → ℕ → List ℕ → Type 0
Follow slots x [] = x ≡ 0
Follow slots x (h ∷ hs) = (x ≡ h) × ((next : ℕ) × (Contains slots (h, slot.Free next) × Follow slots next hs))

-- the free slots follow one another, each once, from the one that the zone's header names
pub record AreChained (z : ZoneRecords) : Type 0 where
  pub free : List ℕ
  pub follow : Follow (slots_of_zone z) z.front free
  pub all : (h next : ℕ) → Contains (slots_of_zone z) (h, slot.Free next) → Contains free h
  pub once : IsDistinct nat_eq free

-- handles' blocks and their slots say each other, and free slots follow one another
pub record AreLinked (z : ZoneRecords) : Type 0 where
  pub blocks : (at : ℕ) → (b : HandleBlockAt z at) → HasSlot z at b
  pub slots : (h : ℕ) → (flags : Flags) → (contents : ℕ) → Contains (slots_of_zone z) (h, slot.Full flags contents) → HasBlock z h contents
  pub free : AreChained z

-- free blocks are joined, and no block has room for another beside what is in it
pub record AreTight (z : ZoneRecords) : Type 0 where
  pub apart : (at : ℕ) → FreePair z at → ⊥
  pub lengths : IsTrue (list_all (λ (b : BlockRecord). is_free b.content || has_length z.shape b.size (length_of b.content)) z.blocks)

-- a zone of these sizes is in bytes: they are those of possible blocks that have what they are for, with master
-- pointers that say something; handles and blocks find each other, and nothing could be joined or cut
pub record IsZoneIn (spec : ZoneSizes) (bytes : List ℕ) (z : ZoneRecords) : Type 0 where
  pub layout : Layout
  pub zone : blocks.IsZoneIn spec bytes layout
  pub sound : AreSound layout
  pub same : records_in layout ≡ z
  pub links : AreLinked z
  pub tight : AreTight z

-- a block has what it is for: a master block the words of its slots, and a handle's block a handle of 32 bits
pub record IsUsed (heads : HeadKind) (base : ℕ) (b : RawBlock) : Type 0 where
  pub use_is : IsTrue (has_use base b.role (length b.contents))
  pub words : HasWords heads b
