-- The structure of a zone: all that its bytes say but contents, and but flags in 24-bit master pointers. What bytes
-- with this structure say of the rest.
use Rattle.std.specs.Prelude.{◌≡◌, ℕ, ◌+◌, ◌-◌, ◌≤◌, ◌<◌, List, length, take, map, IsTrue}
use Rattle.mac_base.specs.declared.block.Flags.{Flags}
use Rattle.mac_base.specs.HandleTable.{Live, EmptyHandle, FullHandle, Pointer, HandleTable, zeros, flags_of, is_full}
use Rattle.mac_base.specs.Heap.{Heap, with_table}
use Rattle.mac_base.specs.HeadKind.{Shape, zone_header}
use Rattle.mac_base.specs.ZoneMap.{ZoneMap, contents_of, total_size}
use Rattle.mac_base.specs.ZoneState.{ZoneState, with_heap}
use Rattle.raw_region.specs.Bytes.{part}
use Rattle.zone_records.specs.declared.structure.Agreement.{Agreement}
use Rattle.zone_records.specs.Structure.{said_flags, Means}
use Rattle.linked_zone.specs.Image.{IsImage}

-- what is live at the number x, with the contents and flags that bytes have in their places
abbrev pub shown_live : Shape → ZoneMap → List ℕ → ℕ → Live → Live
shown_live s blocks bytes x EmptyHandle = EmptyHandle
shown_live s blocks bytes x (FullHandle flags old) = FullHandle (said_flags s.heads bytes (x - s.base) flags) (part bytes (contents_of s x blocks - s.base) (length old))
shown_live s blocks bytes x (Pointer old) = Pointer (part bytes (x - s.base) (length old))

-- the handle table with them
abbrev pub shown_table : Shape → ZoneMap → List ℕ → HandleTable → HandleTable
shown_table s blocks bytes t = record t { live = map (λ e. (e.0, shown_live s blocks bytes e.0 e.1)) t.live }

-- the zone with the contents and flags that bytes have in their places
abbrev pub shown : ZoneState → List ℕ → ZoneState
shown z bytes = with_heap (with_table (shown_table z.shape z.heap.map bytes z.heap.table) z.heap) z

-- a zone is in these bytes: they are as many as its limit, and those of its blocks are in their places
pub record IsIn (z : ZoneState) (bytes : List ℕ) : Type 0 where
  pub all : length bytes ≡ z.shape.limit
  pub image : IsImage z (take (zone_header + total_size z.heap.map) bytes)

-- bytes have the structure of a zone: they are those of the zone with their contents and flags
abbrev pub HasStructure : ZoneState → List ℕ → Type 0
HasStructure z bytes = IsIn (shown z bytes) bytes

-- each handle has the flags that bytes say
abbrev pub SameFlags : ZoneState → List ℕ → Type 0
SameFlags z bytes = (x : ℕ) → flags_of (shown z bytes).heap.table x ≡ flags_of z.heap.table x

-- how bytes agree with a zone: they haven't its structure; or they have, and flags differ, or not
abbrev pub Agrees : ZoneState → List ℕ → Agreement → Type 0
Agrees z bytes agreement = Means agreement (HasStructure z bytes) (SameFlags z bytes)

-- the handle h has a block, bytes say these other flags of it, and the same flags of each from a number on and below h
pub record FirstChanged (z : ZoneState) (bytes : List ℕ) (from h : ℕ) (flags : Flags) : Type 0 where
  pub full : IsTrue (is_full z.heap.table h)
  pub said : flags ≡ flags_of (shown z bytes).heap.table h
  pub differ : flags ≡ flags_of z.heap.table h → ⊥
  pub reached : from ≤ h
  pub first : (x : ℕ) → from ≤ x → x < h → flags_of (shown z bytes).heap.table x ≡ flags_of z.heap.table x

-- they say the same flags of each handle from a number on
abbrev pub NoneChanged : ZoneState → List ℕ → ℕ → Type 0
NoneChanged z bytes from = (x : ℕ) → from ≤ x → flags_of (shown z bytes).heap.table x ≡ flags_of z.heap.table x

-- what is live, with zeros for its bytes
abbrev pub blank_live : Live → Live
blank_live EmptyHandle = EmptyHandle
blank_live (FullHandle flags bytes) = FullHandle flags (zeros (length bytes))
blank_live (Pointer bytes) = Pointer (zeros (length bytes))

-- a heap with zeros for all contents
abbrev pub blank_heap : Heap → Heap
blank_heap heap = with_table (record heap.table { live = map (λ e. (e.0, blank_live e.1)) heap.table.live }) heap

-- two zones differ in contents alone, and in the memory that they are in
pub record DifferInContents (z w : ZoneState) : Type 0 where
  pub shape : z.shape ≡ w.shape
  pub heap : blank_heap z.heap ≡ blank_heap w.heap
