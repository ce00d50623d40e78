-- AppleSingle or AppleDouble with another resource fork: its entry has the new fork's bytes, every other entry and all
-- that lies between the entries are as they were.
use Rattle.std.specs.Prelude.{ℕ, ◌+◌, ◌-◌, ◌==◌, nat_le, nat_lt, not, Bool, ◌&&◌, ◌||◌, if◌then◌else◌, List, [], ◌∷◌, ◌++◌, length, map, take, drop, find, slice_range, Option, None, Some, is_some, option_map, unwrap_or}
use Rattle.std.specs.List.{flat_map}
use Rattle.std.specs.Option.{option_or}
use Rattle.byteorder.specs.Endian.{big_bytes}
use Rattle.mac_files.specs.declared.part.Part.{Part}
use Rattle.mac_files.specs.declared.fault.Entry.{Entry}
use Rattle.mac_files.specs.Apple.{entries_of, list_end}
use Rattle.mac_write.specs.declared.refusal.Refusal.{Refusal}
use Rattle.mac_write.specs.declared.refusal.Refusal.TheVariants.{ListFull, Overlap, TooLong}

-- the first entry with the id of the resource fork
abbrev pub listed_fork : List ℕ → Option Entry
listed_fork file = find (λ (e : Entry). e.id == 2) (entries_of file)

-- the entry of the resource fork; where there is none, one of no bytes comes after the list
abbrev pub fork_entry : List ℕ → Entry
fork_entry file =
    unwrap_or (listed_fork file) (record { at = list_end file; id = 2; part = record { offset = 0; length = 0 } })

-- the entries of the new list
abbrev pub all_entries : List ℕ → List Entry
all_entries file = if is_some (listed_fork file) then entries_of file else entries_of file ++ fork_entry file ∷ []

-- by how many bytes the list grows
abbrev pub growth : List ℕ → ℕ
growth file = if is_some (listed_fork file) then 0 else 12

-- where the bytes of the fork are; a fork of no bytes comes at the end
abbrev pub room : List ℕ → Part
room file =
    let part = (fork_entry file).part in
    if part.length == 0 then record { offset = length file; length = 0 } else part

abbrev pub room_end : List ℕ → ℕ
room_end file = (room file).offset + (room file).length

-- where the bytes at a place come to be, with a new fork of so many bytes: those after the fork move with its end
abbrev pub moved_place : List ℕ → ℕ → ℕ → ℕ
moved_place file count at =
    if nat_lt at (room file).offset then at + growth file else at + growth file + count - (room file).length

abbrev pub moved : List ℕ → ℕ → Part → Part
moved file count part =
    if part.length == 0 then part else record { offset = moved_place file count part.offset; length = part.length }

-- an entry is that of the resource fork
abbrev pub is_fork : List ℕ → Entry → Bool
is_fork file e = (e.id == 2) && (e.at == (fork_entry file).at)

-- the entry in the new list
abbrev pub changed : List ℕ → ℕ → Entry → Entry
changed file count e = record {
  at = e.at;
  id = e.id;
  part = if is_fork file e then record { offset = (room file).offset + growth file; length = count } else moved file count e.part;
}

-- the entry has bytes in the header or the list, or shares some with the fork
abbrev pub is_in_the_way : List ℕ → Entry → Bool
is_in_the_way file e =
    let part = e.part in
    not (part.length == 0) && not (nat_le (list_end file) part.offset
    && (is_fork file e || nat_le (part.offset + part.length) (room file).offset || nat_le (room_end file) part.offset))

-- how many bytes the new file has
abbrev pub new_length : List ℕ → ℕ → ℕ
new_length file count = length file + growth file + count - (room file).length

-- an entry as 12 bytes
abbrev pub entry_text : Entry → List ℕ
entry_text e = big_bytes 4 e.id ++ (big_bytes 4 e.part.offset ++ big_bytes 4 e.part.length)

abbrev pub list_text : List Entry → List ℕ
list_text entries = flat_map entry_text entries

-- the header and the list of the new file
abbrev pub front : List ℕ → ℕ → List ℕ
front file count =
    take 24 file ++ (big_bytes 2 (length (all_entries file)) ++ list_text (map (changed file count) (all_entries file)))

-- what comes after the list: what came before the fork, the fork, and what came after it
abbrev pub body : List ℕ → List ℕ → List ℕ
body file fork = slice_range file (list_end file) (room file).offset ++ (fork ++ drop (room_end file) file)

-- the new file
abbrev pub apple_with_fork : List ℕ → List ℕ → List ℕ
apple_with_fork file fork = front file (length fork) ++ body file fork

-- why the list or the file has no room: two bytes count the entries, four bytes the bytes of the file
abbrev pub room_refusal : List ℕ → ℕ → Option Refusal
room_refusal file count =
    if nat_lt 65535 (length (all_entries file)) then Some ListFull
    else if nat_lt 0xFFFFFFFF (new_length file count) then Some (TooLong (new_length file count) 0xFFFFFFFF)
    else None

-- four bytes count the bytes of the fork
abbrev pub length_refusal : ℕ → Option Refusal
length_refusal count = if nat_lt 0xFFFFFFFF count then Some (TooLong count 0xFFFFFFFF) else None

-- why the fork isn't written: it is too long; an entry that can't be kept, the first of the list; no room
abbrev pub apple_refusal : List ℕ → ℕ → Option Refusal
apple_refusal file count = option_or (length_refusal count)
    (option_or (option_map Overlap (find (is_in_the_way file) (entries_of file))) (room_refusal file count))
