-- A zone that is in bytes which others wrote.
use Rattle.std.specs.Prelude.{◌≡◌, ℕ, ◌+◌, ◌-◌, ◌/◌, ◌%◌, ◌≤◌, ◌<◌, ◌^◌, List, ◌++◌, length, take, drop, replicate, IsTrue}
use Rattle.std.specs.List.{list_all}
use Rattle.byteorder.specs.Endian.{big_number}
use Rattle.mac_base.specs.declared.block.HeadKind.{HeadKind}
use Rattle.mac_base.specs.HeadKind.{head_size, smallest_block, zone_header}
use Rattle.mac_base.specs.ZoneSizes.{ZoneSizes}
use Rattle.mac_base.specs.ZoneState.{own_memory}
use Rattle.raw_region.specs.Bytes.{part}
use Rattle.raw_region.specs.State.{State}
use Rattle.block_bytes.specs.declared.header.Header.{Header}
use Rattle.block_bytes.specs.Head.{most_over, head_bytes}
use Rattle.block_bytes.specs.ZoneHead.{front_field, zone_head}
use Rattle.block_bytes.specs.Layout.{RawBlock, Layout, NothingLent, image_of, address_after, is_free, is_possible, can_be_told, total_of, free_total, rendered, lent_count}
use Rattle.block_bytes.specs.Starts.{marks_of, starts_of}

-- a zone of these sizes is in bytes: its blocks are possible ones and end where the zone does, and none is lent
pub record IsZoneIn (spec : ZoneSizes) (bytes : List ℕ) (l : Layout) : Type 0 where
  pub heads : l.heads ≡ spec.heads
  pub base : l.base ≡ spec.base
  pub all : length bytes ≡ spec.limit
  pub image : image_of l ≡ bytes
  pub ends : address_after l l.blocks ≡ spec.base + spec.size
  pub possible : IsTrue (list_all (is_possible spec.heads) l.blocks)
  pub unlent : NothingLent l

-- a block can have such a header where so many bytes are left
pub record Fits (heads : HeadKind) (left : ℕ) (h : Header) : Type 0 where
  pub even : h.size % 4 ≡ 0
  pub large : smallest_block heads ≤ h.size
  pub within : h.size ≤ left
  pub over : h.correction ≤ h.size - head_size heads
  pub free : IsTrue (is_free h.role) → h.correction ≡ 0

-- the header of a possible block is at an offset, in a zone that begins at an address, and so many bytes are left
pub record IsHeadAt (heads : HeadKind) (base : ℕ) (bytes : List ℕ) (at left : ℕ) (h : Header) : Type 0 where
  pub fits : Fits heads left h
  pub few : h.correction ≤ most_over heads
  pub told : IsTrue (can_be_told heads h.role h.correction)
  pub bytes_are : part bytes at (head_size heads) ≡ head_bytes heads base h

-- bytes begin with the header of a zone, whatever it says of the free slots
pub record HasZoneHead (bytes : List ℕ) (end free lowest : ℕ) : Type 0 where
  pub front : ℕ
  pub head : take zone_header bytes ≡ zone_head end front free lowest

-- possible blocks, none of them lent, are in bytes up to an offset, with their numbers in the index and so many bytes
-- of the free ones; and a zone of these sizes that is in the bytes begins with them
pub record BlocksUpTo (spec : ZoneSizes) (bytes index : List ℕ) (at free : ℕ) : Type 0 where
  pub blocks : List RawBlock
  pub place : at ≡ zone_header + total_of spec.heads blocks
  pub within : at ≤ spec.size
  pub bytes_are : drop zone_header bytes ≡ rendered spec.heads spec.base blocks ++ drop at bytes
  pub possible : IsTrue (list_all (is_possible spec.heads) blocks)
  pub unlent : lent_count blocks ≡ 0
  pub marked : index ≡ replicate (zone_header / 4) 0 ++ (marks_of spec.heads blocks ++ replicate ((spec.limit - at) / 4) 0)
  pub free_are : free ≡ free_total spec.heads blocks
  pub first : (l : Layout) → IsZoneIn spec bytes l → (rest : List RawBlock) × (l.blocks ≡ blocks ++ rest)

-- the zone that a region's bytes are, with these blocks
abbrev pub zone_with : ZoneSizes → State → List RawBlock → Layout
zone_with spec region bs = record {
  memory = own_memory region.name;
  heads = spec.heads;
  base = spec.base;
  front = big_number 4 (part region.bytes front_field 4);
  blocks = bs;
  spare = drop spec.size region.bytes;
}

-- a zone of these sizes is in a region, and the index is that of its blocks
pub record ZoneRead (spec : ZoneSizes) (region : State) (index : List ℕ) : Type 0 where
  pub blocks : List RawBlock
  pub zone : IsZoneIn spec region.bytes (zone_with spec region blocks)
  pub small : big_number 4 (part region.bytes front_field 4) < 2 ^ 32
  pub marked : index ≡ starts_of (zone_with spec region blocks)
