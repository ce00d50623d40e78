-- The flags that a guest set in master pointers, where these are right.
use Rattle.std.specs.Prelude.{◌≡◌, ℕ, ◌-◌, ◌%◌, ◌<◌, ◌≤◌, ◌==◌, Bool, if◌then◌else◌, List, option_map}
use Rattle.std.specs.List.{list_any}
use Rattle.byteorder.specs.Endian.{big_number}
use Rattle.mac_base.specs.declared.block.Flags.{Flags}
use Rattle.mac_base.specs.HandleTable.{Live, EmptyHandle, FullHandle, Pointer, live_at}
use Rattle.mac_base.specs.ZoneMap.{contents_of}
use Rattle.mac_base.specs.ZoneState.{ZoneState}
use Rattle.raw_region.specs.Bytes.{part}
use Rattle.zone_records.specs.Structure.{said_flags}

-- whether the low three bytes of the master pointer of x, among bytes, are the address of its block's contents
abbrev pub points_right : ZoneState → List ℕ → ℕ → Bool
points_right z bytes x = big_number 4 (part bytes (x - z.shape.base) 4) % 0x100_0000 == contents_of z.shape x z.heap.map

-- the flags that its master pointer says, where its low three bytes are right, and else these. With 32-bit blocks a master
-- pointer says none
abbrev pub right_flags : ZoneState → List ℕ → ℕ → Flags → Flags
right_flags z bytes x flags = if points_right z bytes x then said_flags z.shape.heads bytes (x - z.shape.base) flags else flags

-- the flags of a handle after a repair, where it had these: one that waits to be lent has them still
abbrev pub kept_flags : ZoneState → List ℕ → List ℕ → ℕ → Flags → Flags
kept_flags z bytes waiting x flags = if list_any (λ y. y == x) waiting then flags else right_flags z bytes x flags

-- what is live, with these flags. An empty handle has none: what bits its master pointer has mean nothing
abbrev pub kept_live : ZoneState → List ℕ → List ℕ → ℕ → Live → Live
kept_live z bytes waiting x EmptyHandle = EmptyHandle
kept_live z bytes waiting x (FullHandle flags contents) = FullHandle (kept_flags z bytes waiting x flags) contents
kept_live z bytes waiting x (Pointer contents) = Pointer contents

-- the new zone is the old one with the flags that bytes say: nothing else is changed
pub record KeepsFlags (old : ZoneState) (bytes waiting : List ℕ) (new : ZoneState) : Type 0 where
  pub live : (x : ℕ) → live_at new.heap.table x ≡ option_map (kept_live old bytes waiting x) (live_at old.heap.table x)
  pub lent : new.heap.table.lent ≡ old.heap.table.lent
  pub map : new.heap.map ≡ old.heap.map
  pub free_slots : new.heap.free_slots ≡ old.heap.free_slots
  pub shape : new.shape ≡ old.shape
  pub memory : new.memory ≡ old.memory

-- it is so of the number x, and nothing else is changed
pub record KeepsAt (old : ZoneState) (bytes waiting : List ℕ) (x : ℕ) (new : ZoneState) : Type 0 where
  pub here : live_at new.heap.table x ≡ option_map (kept_live old bytes waiting x) (live_at old.heap.table x)
  pub others : (y : ℕ) → (y ≡ x → ⊥) → live_at new.heap.table y ≡ live_at old.heap.table y
  pub lent : new.heap.table.lent ≡ old.heap.table.lent
  pub map : new.heap.map ≡ old.heap.map
  pub free_slots : new.heap.free_slots ≡ old.heap.free_slots
  pub shape : new.shape ≡ old.shape
  pub memory : new.memory ≡ old.memory

-- it is so of the numbers below one
pub record KeepsTo (old : ZoneState) (bytes waiting : List ℕ) (from : ℕ) (new : ZoneState) : Type 0 where
  pub done : (x : ℕ) → x < from → live_at new.heap.table x ≡ option_map (kept_live old bytes waiting x) (live_at old.heap.table x)
  pub left : (x : ℕ) → from ≤ x → live_at new.heap.table x ≡ live_at old.heap.table x
  pub lent : new.heap.table.lent ≡ old.heap.table.lent
  pub map : new.heap.map ≡ old.heap.map
  pub free_slots : new.heap.free_slots ≡ old.heap.free_slots
  pub shape : new.shape ≡ old.shape
  pub memory : new.memory ≡ old.memory
