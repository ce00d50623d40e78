-- The directory: entries of files.
use Rattle.std.specs.Prelude.{ℕ, zero, suc, ◌+◌, ◌*◌, ◌/◌, ◌==◌, nat_le, nat_lt, ◌&&◌, ◌||◌, not, if◌then◌else◌, Bool, List, [], ◌∷◌, ◌++◌, length, take, drop, replicate, slice_index, Option, None, Some}
use Rattle.byteorder.specs.Endian.{big_from}
use Rattle.fork_disk.specs.Disk.{bytes_at}
use Rattle.hfs_volume.specs.declared.entry.Which.{Which}
use Rattle.hfs_volume.specs.declared.entry.Which.TheVariants.{Data, Resource}
use Rattle.mfs_volume.specs.declared.directory.Directory.{Directory}
use Rattle.mfs_volume.specs.declared.directory.MfsFile.{MfsFile}
use Rattle.mfs_volume.specs.declared.fault.MfsFault.{MfsFault}
use Rattle.mfs_volume.specs.declared.fault.MfsFault.TheVariants.{Entry}

-- the bytes of a name
abbrev pub name_bytes : MfsFile → List ℕ
name_bytes file = take (slice_index file.front 50) file.name

-- a name, and zeros up to 255 bytes
abbrev pub padded_name : List ℕ → List ℕ
padded_name name = name ++ drop (length name) (replicate 255 0)

-- the number of a file
abbrev pub number_of : MfsFile → ℕ
number_of file = big_from 18 4 file.front

-- where an entry says which is a fork's first block, and two bytes later how many bytes it has
abbrev pub fork_place : Which → ℕ
fork_place Data = 22
fork_place Resource = 32

abbrev pub first_block : MfsFile → Which → ℕ
first_block file which = big_from (fork_place which) 2 file.front

abbrev pub size_of : MfsFile → Which → ℕ
size_of file which = big_from (fork_place which + 2) 4 file.front

-- where an entry at a place of its block ends: it has a name, whose length is its byte 50, and ends in the block
abbrev pub end_of : List ℕ → ℕ → Option ℕ
end_of block at = let end = at + 51 + slice_index block (at + 50) in
    if nat_lt 460 at || (slice_index block (at + 50) == 0) then None else if nat_le end 512 then Some end else None

-- the entry at a place of a block, which is at a place of the volume
abbrev pub entry_at : ℕ → List ℕ → ℕ → MfsFile
entry_at place block at = record { place = place + at; front = bytes_at 51 at block; name = padded_name (bytes_at (slice_index block (at + 50)) (at + 51) block) }

-- entries, and the fault that they end with
pub record Entries : Type 0 where
  pub files : List MfsFile
  pub fault : Option MfsFault

abbrev pub read_as : Directory → Entries
read_as found = record { files = found.files.items; fault = found.fault }

abbrev pub entries_before : List MfsFile → Entries → Entries
entries_before files rest = record { files = files ++ rest.files; fault = rest.fault }

-- a fault, or else what comes after
abbrev pub ended : Option MfsFault → Entries → Entries
ended None rest = rest
ended (Some fault) rest = record { files = []; fault = Some fault }

-- an entry and those after it, which begin at the next even place, or its fault
abbrev pub with_entry : ℕ → List ℕ → ℕ → Option ℕ → (ℕ → Entries) → Entries
with_entry place block at None others = ended (Some (Entry (place + at))) (others 0)
with_entry place block at (Some end) others = entries_before (entry_at place block at ∷ []) (others ((end + 1) / 2 * 2))

-- the entries of a block from a place on, so many at most: a byte without bit 7 ends them
unfoldable pub entries_from : ℕ → List ℕ → ℕ → ℕ → Entries → Entries
entries_from place block zero at rest = rest
entries_from place block (suc more) at rest =
    if nat_le 512 at || nat_lt (slice_index block at) 128 then rest
    else with_entry place block at (end_of block at) (λ next. entries_from place block more next rest)

-- the entries of so many blocks from one on; a block has room for nine
unfoldable pub entries_in : ℕ → List ℕ → ℕ → ℕ → Entries
entries_in place bytes zero index = record { files = []; fault = None }
entries_in place bytes (suc more) index =
    entries_from (place + index * 512) (bytes_at 512 (index * 512) bytes) 10 0 (entries_in place bytes more (index + 1))
