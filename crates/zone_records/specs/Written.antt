-- Bytes of a zone that a host says were written.
use Rattle.std.specs.Prelude.{◌≡◌, ℕ, ◌+◌, ◌-◌, ◌≤◌, ◌<◌, List, ◌∷◌, [], length, slice_index, ◌⊎◌}
use Rattle.mac_base.specs.HeadKind.{zone_header}
use Rattle.block_bytes.specs.Finding.{HoldsByte}
use Rattle.block_bytes.specs.Layout.{Layout}
use Rattle.block_bytes.specs.Structure.{HasHead}
use Rattle.zone_records.specs.declared.structure.Written.{Written}
use Rattle.zone_records.specs.Masters.{BlocksAgree, BlocksSame}
use Rattle.zone_records.specs.Records.{ZoneRecords}
use Rattle.zone_records.specs.Structure.{HasStructure, SameFlags}

-- the byte at an offset is in one of these ranges
abbrev pub IsIn : List Written → ℕ → Type 0
IsIn [] at = ⊥
IsIn (w ∷ ws) at = ((w.from ≤ at) × (at < w.from + w.count)) ⊎ IsIn ws at

-- bytes differ only in these ranges from bytes with the zone's structure and flags
pub record DifferIn (z : ZoneRecords) (bytes : List ℕ) (ranges : List Written) : Type 0 where
  pub before : List ℕ
  pub structure : HasStructure z before
  pub flags : SameFlags z before
  pub long : length bytes ≡ length before
  pub same : (at : ℕ) → (IsIn ranges at → ⊥) → slice_index bytes at ≡ slice_index before at

-- a range has the byte at an offset
abbrev pub HasByte : Written → ℕ → Type 0
HasByte w at = (w.from ≤ at) × (at < w.from + w.count)

-- bytes agree with what has a byte of a range: the zone's header, and each block's with its slots
pub record RangeAgrees (l : Layout) (bytes : List ℕ) (w : Written) : Type 0 where
  pub head : (at : ℕ) → HasByte w at → at < zone_header → HasHead l bytes
  pub blocks : (at start : ℕ) → HasByte w at → (h : HoldsByte l (l.base + at) start) → BlocksAgree l bytes (start - l.base) (h.block.here ∷ [])

-- they say the same flags of these slots
abbrev pub RangeSame : Layout → List ℕ → Written → Type 0
RangeSame l bytes w = (at start : ℕ) → HasByte w at → (h : HoldsByte l (l.base + at) start) → BlocksSame l bytes (start - l.base) (h.block.here ∷ [])
