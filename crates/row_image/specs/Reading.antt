-- What is read of bytes.
use Rattle.std.specs.Prelude.{◌≡◌, ℕ, ◌==◌, if◌then◌else◌, List, length, drop, Option, None, Some, Result, MatchResult}
use Rattle.std.specs.Option.{option_map}
use Rattle.byteorder.specs.Endian.{big_number}
use Rattle.fork_bytes.specs.Rows as fork
use Rattle.fork_bytes.specs.declared.place.Place.{Place}
use Rattle.res_table.specs.declared.row.Row.{Row}
use Rattle.row_image.specs.declared.fault.SaveFault.{SaveFault}
use Rattle.row_image.specs.declared.fault.SaveFault.TheVariants.{HostFull}
use Rattle.row_image.specs.declared.info.RowInfo.{RowInfo}

-- the number in four bytes at an offset
abbrev pub four_at : ℕ → List ℕ → ℕ
four_at at bytes = big_number 4 (drop at bytes)

-- what 8 bytes say of a row without a handle, or 12 of one that has one
abbrev pub info_in : List ℕ → Option RowInfo
info_in bytes =
    if length bytes == 8 then Some (record { place = record { offset = four_at 0 bytes; length = four_at 4 bytes }; handle = None })
    else (if length bytes == 12 then Some (record { place = record { offset = four_at 0 bytes; length = four_at 4 bytes }; handle = Some (four_at 8 bytes) })
    else None)

-- a row that a resource says so
abbrev pub row_with : fork.Row → RowInfo → Row Place
row_with r i = record {
  resource = record { kind = r.kind; id = r.id; name = r.name; attributes = r.attributes; datum = i.place };
  handle = i.handle;
}

-- the row that a resource says, if its bytes say one
abbrev pub row_in : fork.Row → Option (Row Place)
row_in r = option_map (row_with r) (info_in r.datum)

-- This is read, or the host has no memory.
abbrev pub IsReadAs : {A : Type 0} → Result A SaveFault → A → Type 0
IsReadAs result wanted = MatchResult result (λ found. found ≡ wanted) (λ fault. fault ≡ HostFull)
