-- The fields of a zone's header that are the guest's. The Memory Manager's are bkLim, hFstFree, zcbFree and allocPtr, at
-- 0, 8, 12 and 48.
use Rattle.std.specs.Prelude.{◌≡◌, ℕ, List, ◌++◌, length}
use Rattle.byteorder.specs.Endian.{big_bytes}
use Rattle.mac_base.specs.HeadKind.{slot_count}
use Rattle.block_bytes.specs.ZoneHead.{zeros}
use Rattle.raw_region.specs.Bytes.{part, written}
use Rattle.raw_region.specs.State.{State as Region}
use Rattle.held_zone.specs.declared.fields.GuestFields.{GuestFields}

-- those that bytes have: purgePtr, at 4, and the 32 bytes from gzProc to sparePtr, at 16
abbrev pub fields_in : List ℕ → GuestFields
fields_in bytes = record { purge_ptr = part bytes 4 4; others = part bytes 16 32 }

-- the bytes with these
abbrev pub with_fields : GuestFields → List ℕ → List ℕ
with_fields fields bytes = written (written bytes 4 fields.purge_ptr) 16 fields.others

-- those of a new zone: moreMast, at 20, is the number of master pointers in a master block, and all else is zero
abbrev pub new_fields : GuestFields
new_fields = record { purge_ptr = zeros 4; others = zeros 4 ++ (big_bytes 2 slot_count ++ zeros 26) }

-- the bytes as the Memory Manager has them: with the fields of a new zone, whatever the guest's are
abbrev pub managed : List ℕ → List ℕ
managed bytes = with_fields new_fields bytes

-- fields are as long as their places
pub record AreFields (g : GuestFields) : Type 0 where
  pub purge_ptr : length g.purge_ptr ≡ 4
  pub others : length g.others ≡ 32

-- a region with these fields
abbrev pub fielded : GuestFields → Region → Region
fielded fields r = record r { bytes = with_fields fields r.bytes }

-- a region as the Memory Manager has it
abbrev pub managed_in : Region → Region
managed_in r = fielded new_fields r
