-- AppleSingle and AppleDouble: a header of 26 bytes, a list of entries of 12 bytes each, and the bytes of the entries.
use Rattle.std.specs.Prelude.{ℕ, zero, suc, ◌+◌, ◌*◌, ◌==◌, nat_le, ◌||◌, if◌then◌else◌, not, Bool, List, [], ◌∷◌, length, take, drop, find, Option, None, Some, option_and_then}
use Rattle.byteorder.specs.Endian.{big_from}
use Rattle.mac_files.specs.declared.part.Part.{Part}
use Rattle.mac_files.specs.declared.fault.Entry.{Entry}
use Rattle.mac_files.specs.declared.contents.FinderInfo.{FinderInfo}
use Rattle.mac_files.specs.declared.contents.Dates.{Dates}
use Rattle.mac_files.specs.declared.contents.Contents.{Contents}
use Rattle.mac_files.specs.Parts.{has_bytes, lies_within}

-- the version, and whether it is known
abbrev pub version : List ℕ → ℕ
version file = big_from 4 4 file

abbrev pub is_known : ℕ → Bool
is_known version = (version == 0x10000) || (version == 0x20000)

-- how many entries the list has, and where it ends
abbrev pub entry_count : List ℕ → ℕ
entry_count file = big_from 24 2 file

abbrev pub list_end : List ℕ → ℕ
list_end file = 26 + 12 * entry_count file

-- the entry at a place of the list
abbrev pub entry_at : List ℕ → ℕ → Entry
entry_at file at = record {
  at = at;
  id = big_from at 4 file;
  part = record { offset = big_from (at + 4) 4 file; length = big_from (at + 8) 4 file };
}

-- so many entries from a place on
abbrev pub entries_from : List ℕ → ℕ → ℕ → List Entry
entries_from file at zero = []
entries_from file at (suc count) = entry_at file at ∷ entries_from file (at + 12) count

-- the entries of the list
abbrev pub entries_of : List ℕ → List Entry
entries_of file = entries_from file 26 (entry_count file)

-- the first entry that has bytes outside the file
abbrev pub entry_outside : List ℕ → Option Entry
entry_outside file = find (λ (e : Entry). not (lies_within (length file) e.part)) (entries_of file)

-- the first entry with an id
abbrev pub entry_of : ℕ → List ℕ → Option Entry
entry_of id file = find (λ (e : Entry). e.id == id) (entries_of file)

-- its bytes, if it has any
abbrev pub part_of : ℕ → List ℕ → Option Part
part_of id file = option_and_then (λ (e : Entry). has_bytes e.part) (entry_of id file)

-- what the Finder knows of the file: the type, the creator and the flags, in 10 bytes
abbrev pub finder_in : List ℕ → Part → Option FinderInfo
finder_in file part = if nat_le 10 part.length then Some (record {
  kind = take 4 (drop part.offset file);
  creator = take 4 (drop (part.offset + 4) file);
  flags = big_from (part.offset + 8) 2 file;
}) else None

-- the dates of the file, in 8 bytes
abbrev pub dates_in : List ℕ → Part → Option Dates
dates_in file part = if nat_le 8 part.length then Some (record {
  created = big_from part.offset 4 file;
  modified = big_from (part.offset + 4) 4 file;
}) else None

-- what the entries say: 1 is the data fork, 2 the resource fork, 3 the name, 4 the comment, 8 the dates, 9 what the
-- Finder knows
abbrev pub apple_contents : List ℕ → Contents
apple_contents file = record {
  resource_fork = part_of 2 file;
  data_fork = part_of 1 file;
  name = part_of 3 file;
  comment = part_of 4 file;
  finder = option_and_then (finder_in file) (part_of 9 file);
  dates = option_and_then (dates_in file) (part_of 8 file);
}
