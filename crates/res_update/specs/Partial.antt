-- ReadPartialResource: some of the bytes that a resource has in its file, whether or not it is in memory.
use Rattle.std.specs.Prelude.{◌≡◌, ℕ, ◌+◌, ◌<◌, nat_le, Bool, true, false, List, [], length, is_some, if◌then◌else◌, Result, Ok, Err}
use Rattle.std.specs.Option.{option_map_or}
use Rattle.mac_base.specs.declared.error.OsErr.TheVariants.{IoErr, ResNotFound, ResFNotFound}
use Rattle.fork_disk.specs.Disk.{bytes_at}
use Rattle.res_table.specs.declared.chain.RowPlace.{RowPlace}
use Rattle.res_table.specs.OpenFiles.{place_of_handle, row_at}
use Rattle.res_update.specs.declared.partial_end.PartialEnd.{PartialEnd}
use Rattle.res_update.specs.declared.partial_end.PartialEnd.TheVariants.{Done, InMemory, OutOfBounds, Refused}
use Rattle.res_update.specs.Changes.{FileRow, Files}

-- the bytes that the resource at a place has in its file: one that was added has none before it is written
abbrev pub data_at : RowPlace → Files → List ℕ
data_at p files = option_map_or (λ (r : FileRow). r.resource.datum) (row_at p files) []

-- its place, if it has so many bytes there from an offset on; or else they are out of its bounds
abbrev pub part_at : ℕ → ℕ → Files → RowPlace → Result RowPlace PartialEnd
part_at at n files p = if nat_le (at + n) (length (data_at p files)) then Ok p else Err OutOfBounds

-- the place of the resource with a handle that has them, or how a call for them ends: no file is open, no resource has
-- the handle, or they are out of its bounds
abbrev pub part_asked : ℕ → ℕ → ℕ → Files → Result RowPlace PartialEnd
part_asked h at n files =
    if is_some files.current then option_map_or (part_at at n files) (place_of_handle h files) (Err (Refused ResNotFound)) else Err (Refused ResFNotFound)

-- the end of a call that read or wrote them, by whether the resource is in memory
abbrev pub end_of_part : Bool → PartialEnd
end_of_part true = InMemory
end_of_part false = Done

-- So a call may end for as many bytes as there were before it, from an offset on, and leave these. It is given which
-- devices are honest, what it is that none failed, or that of the file of a number, and whether the resource is in
-- memory.
module _ (honest : ℕ → Type 0) (worked : Type 0) (Failed : ℕ → Type 0) (in_memory : Bool) (at : ℕ) (before after : List ℕ) where
  -- where they are among these data in the file of a number: its device failed, and any bytes are there; or they were
  -- read
  abbrev pub ReadsData : ℕ → List ℕ → PartialEnd → Type 0
  ReadsData k own (Refused code) = (code ≡ IoErr) × (0 < length before) × Failed k
  ReadsData k own end = (end ≡ end_of_part in_memory) × (honest k → after ≡ bytes_at (length before) at own) × worked

  -- by where they are, or how the call ends that reads none
  abbrev pub ReadsPart : Files → Result RowPlace PartialEnd → PartialEnd → Type 0
  ReadsPart files (Ok p) end = ReadsData p.file (data_at p files) end
  ReadsPart files (Err refusal) end = (end ≡ refusal) × (after ≡ before) × worked
