-- The record of a zone that is awake, and what it has of the zone's own bytes.
use Rattle.std.specs.Prelude.{◌≡◌, ℕ, ◌+◌, ◌≤◌, ◌<◌, ◌⊎◌, true, false, IsTrue, List, [], ◌∷◌, length, take, slice_index, Option, Some, None, option_map, ⊤, if◌then◌else◌}
use Rattle.mac_base.specs.declared.block.HeadKind.{HeadKind}
use Rattle.mac_base.specs.HeadKind.{head_size, zone_header}
use Rattle.mac_base.specs.ZoneState.{Name}
use Rattle.block_bytes.specs.declared.header.Header.{Header}
use Rattle.block_bytes.specs.declared.record.Range.{Range}
use Rattle.block_bytes.specs.declared.record.Changed.{Changed}
use Rattle.block_bytes.specs.declared.record.Record.{Record}
use Rattle.block_bytes.specs.Layout.{RawBlock, size_of}
use Rattle.block_bytes.specs.Structure.{is_master}

-- a byte is in one of these ranges
abbrev pub IsIn : List Range → ℕ → Type 0
IsIn [] i = ⊥
IsIn (r ∷ rs) i = ((r.start ≤ i) × (i < r.start + r.count)) ⊎ IsIn rs i

-- these ranges are among the first n bytes
abbrev pub AreWithin : List Range → ℕ → Type 0
AreWithin [] n = ⊤
AreWithin (r ∷ rs) n = (r.start + r.count ≤ n) × AreWithin rs n

-- the ranges that are noted
abbrev pub noted_ranges : Changed → List Range
noted_ranges c = take c.len c.ranges

-- a byte is noted: it is in one of the ranges, or all are taken to have changed
abbrev pub IsNoted : Changed → ℕ → Type 0
IsNoted c i = IsTrue c.all ⊎ IsIn (noted_ranges c) i

-- no range is noted, and not all bytes are taken to have changed
pub record IsUnchanged (c : Changed) : Type 0 where
  pub some : c.all ≡ false
  pub ranges : noted_ranges c ≡ []

-- what was noted stays, and n bytes from a place on are noted now
pub record Adds (old new : Changed) (start n : ℕ) : Type 0 where
  pub stay : (i : ℕ) → IsNoted old i → IsNoted new i
  pub now : (i : ℕ) → start ≤ i → i < start + n → IsNoted new i
  pub within : (most : ℕ) → start + n ≤ most → AreWithin (noted_ranges old) most → AreWithin (noted_ranges new) most

-- the same of the record of a zone, if it has one
abbrev pub Notes : Option Record → Option Record → ℕ → ℕ → Type 0
Notes None None start n = ⊤
Notes None (Some new) start n = ⊥
Notes (Some old) None start n = ⊥
Notes (Some old) (Some new) start n = (new.region ≡ old.region) × Adds old.changed new.changed start n

-- the name of the region that a record is, if there is one
abbrev pub kept_name : Option Record → Option Name
kept_name = option_map (λ (r : Record). r.region.name)

-- a record by which all bytes are taken to have changed
abbrev pub all_noted : Option Record → Option Record
all_noted None = None
all_noted (Some r) = Some (record r { changed = record r.changed { all = true } })

-- how many bytes of a block are the zone's own: its header, and of a master block its contents too
abbrev pub own_size : HeadKind → RawBlock → ℕ
own_size heads b = head_size heads + (if is_master b.role then length b.contents else 0)

-- how many bytes from the front of a block with this header on the zone's own ones are among
abbrev pub own_most : HeadKind → Header → ℕ
own_most heads h = if is_master h.role then h.size else head_size heads

-- a byte is one of blocks' own bytes. The first of them is at an offset
abbrev pub IsOwn : HeadKind → ℕ → List RawBlock → ℕ → Type 0
IsOwn heads at [] i = ⊥
IsOwn heads at (b ∷ bs) i = ((at ≤ i) × (i < at + own_size heads b)) ⊎ IsOwn heads (at + size_of heads b) bs i

-- other bytes, as many as those of a zone: each of its blocks' own bytes is noted, or the same there
pub record AreKnown (heads : HeadKind) (blocks : List RawBlock) (bytes : List ℕ) (changed : Changed) (others : List ℕ) : Type 0 where
  pub long : length others ≡ length bytes
  pub within : AreWithin (noted_ranges changed) (length bytes)
  pub own : (i : ℕ) → IsOwn heads zone_header blocks i → IsNoted changed i ⊎ (slice_index others i ≡ slice_index bytes i)

-- the record of a zone with these bytes: nothing of it is lent, and its bytes are such others
pub record IsRecordOf (heads : HeadKind) (blocks : List RawBlock) (bytes : List ℕ) (r : Record) : Type 0 where
  pub whole : r.region.lent ≡ []
  pub known : AreKnown heads blocks bytes r.changed r.region.bytes

-- the same, if the zone has one
abbrev pub RecordKept : HeadKind → List RawBlock → List ℕ → Option Record → Type 0
RecordKept heads blocks bytes None = ⊤
RecordKept heads blocks bytes (Some r) = IsRecordOf heads blocks bytes r
