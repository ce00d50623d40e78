-- What a file has that no container is given: all but the forks, the name, the type, the creator and the flags, the
-- first two dates and the comment.
use Rattle.std.specs.Prelude.{ℕ, ◌==◌, nat_le, nat_lt, Bool, false, ◌&&◌, ◌||◌, not, if◌then◌else◌, List, [], ◌∷◌, ◌++◌, length, drop, bytes_eq, Option, None, Some, is_some}
use Rattle.std.specs.List.{filter_map}
use Rattle.mac_files.specs.Apple.{entries_of, entry_of}
use Rattle.mac_files.specs.Containers.{container_of}
use Rattle.mac_files.specs.Faults.{apple_fault}
use Rattle.mac_files.specs.Parts.{bytes_of}
use Rattle.mac_files.specs.declared.container.Container.{Container}
use Rattle.mac_files.specs.declared.container.Container.TheVariants.{Raw, AppleSingle, AppleDouble, MacBinary}
use Rattle.mac_files.specs.declared.fault.Entry.{Entry}
use Rattle.mac_write.specs.Lost.{says_something}
use Rattle.fork_bytes.specs.Fork.{bytes_at}
use Rattle.fork_edit.specs.declared.extra.Extra.{Extra}
use Rattle.fork_edit.specs.declared.extra.Extra.TheVariants as extra
use Rattle.fork_edit.specs.declared.extra.Firsts.{Firsts}

-- AppleSingle and AppleDouble.

-- a date is known: it is neither 0 nor the least
abbrev pub is_known : List ℕ → Bool
is_known date = says_something date && not (bytes_eq date (128 ∷ 0 ∷ 0 ∷ 0 ∷ []))

-- the dates of an entry from the third on, those of the last backup and the last access, say something; or what follows
-- them does
abbrev pub has_other_dates : List ℕ → Bool
has_other_dates bytes = is_known (bytes_at 4 8 bytes) || is_known (bytes_at 4 12 bytes) || says_something (drop 16 bytes)

-- what the dates have beside the first two; of too few bytes, no date is read
abbrev pub dates_extra : List ℕ → Option Extra
dates_extra bytes =
    if nat_lt (length bytes) 8 then Some (extra.Entry 8) else if has_other_dates bytes then Some extra.OtherDates else None

-- what the Finder notes beside the type, the creator and the flags; of too few bytes, nothing is read
abbrev pub finder_extra : List ℕ → Option Extra
finder_extra bytes =
    if nat_lt (length bytes) 10 then Some (extra.Entry 9) else if says_something (drop 10 bytes) then Some extra.FinderNotes else None

-- what the first entry with this id has, whose bytes these are; the forks, the name and the comment are read whole
abbrev pub extra_in : ℕ → List ℕ → Option Extra
extra_in id bytes =
    if nat_le 1 id && nat_le id 4 then None
    else if id == 8 then dates_extra bytes
    else if id == 9 then finder_extra bytes
    else Some (extra.Entry id)

-- the first entry with the id is read
abbrev pub is_read : ℕ → Bool
is_read id = (nat_le 1 id && nat_le id 4) || (id == 8) || (id == 9)

-- the first entries with the ids of which the first is read
abbrev pub firsts_of : List ℕ → Firsts
firsts_of file = record {
  data_fork = entry_of 1 file;
  resource_fork = entry_of 2 file;
  name = entry_of 3 file;
  comment = entry_of 4 file;
  dates = entry_of 8 file;
  finder = entry_of 9 file;
}

abbrev pub first_with : ℕ → List ℕ → Option Entry
first_with id file = if is_read id then entry_of id file else None

-- the entry is the one that was found
abbrev pub is_found : Entry → Option Entry → Bool
is_found entry None = false
is_found entry (Some found) = found.at == entry.at

-- what an entry has: one of no bytes nothing, and the second with an id all of it
abbrev pub extra_of : List ℕ → Entry → Option Extra
extra_of file entry =
    if entry.part.length == 0 then None
    else if is_found entry (entry_of entry.id file) then extra_in entry.id (bytes_of entry.part file)
    else Some (extra.Entry entry.id)

-- what all entries have; those of a damaged file aren't read
abbrev pub apple_extras : List ℕ → List Extra
apple_extras file = if is_some (apple_fault file) then [] else filter_map (extra_of file) (entries_of file)

-- MacBinary.

-- from 75 on the place of the icon, the folder and the lock, at 106 the script of the name and more flags
abbrev pub has_notes : List ℕ → Bool
has_notes file = says_something (bytes_at 7 75 file) || says_something (bytes_at 2 106 file)

-- at 120 the length of a second header
abbrev pub has_second_header : List ℕ → Bool
has_second_header file = says_something (bytes_at 2 120 file)

abbrev pub binary_extras : List ℕ → List Extra
binary_extras file = (if has_notes file then extra.FinderNotes ∷ [] else []) ++ (if has_second_header file then extra.SecondHeader ∷ [] else [])

-- what a file has that is known as this
abbrev pub extras_as : Option Container → List ℕ → List Extra
extras_as None file = []
extras_as (Some Raw) file = []
extras_as (Some AppleSingle) file = apple_extras file
extras_as (Some AppleDouble) file = apple_extras file
extras_as (Some (MacBinary version)) file = binary_extras file

abbrev pub extras : List ℕ → List Extra
extras file = extras_as (container_of file) file
