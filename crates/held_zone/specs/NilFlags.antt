-- Flag bits that a guest set in the master pointer of an empty handle, which is nil but for them: with 24-bit blocks they
-- are in its high byte, as in any master pointer. They say nothing, and fall away when the zone wakes.
use Rattle.std.specs.Prelude.{◌≡◌, ◌⊎◌, ℕ, ◌+◌, ◌-◌, ◌%◌, ◌<◌, ◌≤◌, ◌==◌, ◌&&◌, not, Bool, true, false, if◌then◌else◌, List, length, slice_index}
use Rattle.mac_base.specs.declared.block.HeadKind.{HeadKind}
use Rattle.mac_base.specs.declared.block.HeadKind.TheVariants.{Bits24, Bits32}
use Rattle.mac_base.specs.HandleTable.{is_full, is_handle}
use Rattle.mac_base.specs.ZoneState.{ZoneState}
use Rattle.linked_zone.specs.Structure.{HasStructure}

-- whether master pointers say flags
abbrev pub say_flags : HeadKind → Bool
say_flags Bits24 = true
say_flags Bits32 = false

-- whether the master pointer at an address is an empty handle's, and may say flags
abbrev pub is_nil : ZoneState → ℕ → Bool
is_nil z x = say_flags z.shape.heads && (is_handle z.heap.table x && not (is_full z.heap.table x))

-- whether this byte at an address has flag bits and no others, and is the high one of such a master pointer
abbrev pub is_nil_flags : ZoneState → ℕ → ℕ → Bool
is_nil_flags z x byte = is_nil z x && (byte % 32 == 0 && not (byte == 0))

-- it is so of one among a zone's bytes
abbrev pub has_nil_flags : ZoneState → List ℕ → ℕ → Bool
has_nil_flags z bytes x = is_nil_flags z x (slice_index bytes (x - z.shape.base))

-- from an address on and before another no byte is so
abbrev pub NoneBetween : ZoneState → List ℕ → ℕ → ℕ → Type 0
NoneBetween z bytes from end = (x : ℕ) → from ≤ x → x < end → has_nil_flags z bytes x ≡ false

-- no byte is so
abbrev pub NoNilFlags : ZoneState → List ℕ → Type 0
NoNilFlags z bytes = (x : ℕ) → z.shape.base ≤ x → has_nil_flags z bytes x ≡ false

-- the byte without such bits
abbrev pub cleared_byte : ZoneState → ℕ → ℕ → ℕ
cleared_byte z x byte = if is_nil_flags z x byte then 0 else byte

-- these are the old bytes without such bits: all others are as they were
pub record IsCleared (z : ZoneState) (old new : List ℕ) : Type 0 where
  pub long : length new ≡ length old
  pub each : (at : ℕ) → slice_index new at ≡ cleared_byte z (z.shape.base + at) (slice_index old at)

-- it is so before an address, and from there on they are as they were
pub record IsClearedTo (z : ZoneState) (old : List ℕ) (from : ℕ) (new : List ℕ) : Type 0 where
  pub long : length new ≡ length old
  pub done : (at : ℕ) → z.shape.base + at < from → slice_index new at ≡ cleared_byte z (z.shape.base + at) (slice_index old at)
  pub left : (at : ℕ) → from ≤ z.shape.base + at → slice_index new at ≡ slice_index old at

-- bytes as a zone takes them: as they are where they have its structure, and else without such bits
abbrev pub Takes : ZoneState → List ℕ → List ℕ → Type 0
Takes z bytes taken = (HasStructure z bytes × (taken ≡ bytes)) ⊎ ((HasStructure z bytes → ⊥) × IsCleared z bytes taken)
