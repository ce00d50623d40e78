-- Where a container says that the forks are.
use Rattle.std.specs.Prelude.{ℕ, ◌+◌, ◌-◌, ◌/◌, ◌==◌, nat_le, min, if◌then◌else◌, List, length, find, Option, None, Some, option_map}
use Rattle.mac_files.specs.declared.container.Container.{Container}
use Rattle.mac_files.specs.declared.container.Container.TheVariants.{AppleDouble, AppleSingle, MacBinary, Raw}
use Rattle.mac_files.specs.declared.fault.Entry.{Entry}
use Rattle.mac_files.specs.declared.kind.FileKind.{FileKind}
use Rattle.mac_files.specs.declared.kind.FileKind.TheVariants.{Archive, BinHex, Container as In, Unknown}
use Rattle.mac_files.specs.declared.part.Part.{Part}
use Rattle.mac_files.specs.Apple.{entries_from, entry_count}
use Rattle.mac_files.specs.BinHex.{data_end, data_length, header_end, resource_length}
use Rattle.mac_files.specs.MacBinary.{data_fork, resource_fork}
use Rattle.mac_salvage.specs.declared.place.Places.{Places}

abbrev pub nowhere : Places
nowhere = record { data_fork = None; resource_fork = None }

-- the entries of AppleSingle or AppleDouble that lie within the file
abbrev pub entries_left : List ℕ → List Entry
entries_left file = entries_from file 26 (min (entry_count file) ((length file - 26) / 12))

-- the first of these with an id, and where its bytes are
abbrev pub entry_left : ℕ → List ℕ → Option Entry
entry_left id file = find (λ (e : Entry). e.id == id) (entries_left file)

abbrev pub part_left : ℕ → List ℕ → Option Part
part_left id file = option_map (λ (e : Entry). e.part) (entry_left id file)

-- by the list of entries
abbrev pub apple_places : List ℕ → Places
apple_places file = record { data_fork = part_left 1 file; resource_fork = part_left 2 file }

-- by the lengths in the header
abbrev pub mac_binary_places : List ℕ → Places
mac_binary_places file =
    if nat_le 128 (length file) then record { data_fork = Some (data_fork file); resource_fork = Some (resource_fork file) } else nowhere

-- by the lengths in the header of the bytes that a BinHex text stands for, if they have one
abbrev pub text_places : List ℕ → Places
text_places bytes =
    if nat_le (header_end bytes) (length bytes) then record {
      data_fork = Some (record { offset = header_end bytes + 2; length = data_length bytes });
      resource_fork = Some (record { offset = data_end bytes + 2; length = resource_length bytes });
    } else nowhere

-- the places in a file that is known as this; those in a BinHex text aren't places of the file
abbrev pub places_of : FileKind → List ℕ → Places
places_of (In AppleSingle) file = apple_places file
places_of (In AppleDouble) file = apple_places file
places_of (In (MacBinary version)) file = mac_binary_places file
places_of (In Raw) file = nowhere
places_of BinHex file = nowhere
places_of (Archive archive) file = nowhere
places_of Unknown file = nowhere
