-- Why a container isn't read: each fault with its condition, and their order.
use Rattle.std.specs.Prelude.{ℕ, ◌==◌, nat_lt, if◌then◌else◌, List, length, take, Option, None, Some, option_map}
use Rattle.std.specs.Option.{option_or}
use Rattle.byteorder.specs.Endian.{big_from}
use Rattle.mac_files.specs.declared.part.Part.{Part}
use Rattle.mac_files.specs.declared.container.Version.{Version}
use Rattle.mac_files.specs.declared.container.Version.TheVariants.{I, II, III}
use Rattle.mac_files.specs.declared.fault.Fork.{Fork}
use Rattle.mac_files.specs.declared.fault.Fork.TheVariants.{Data, Resource}
use Rattle.mac_files.specs.declared.fault.Entry.{Entry}
use Rattle.mac_files.specs.declared.fault.ContainerFault.{ContainerFault}
use Rattle.mac_files.specs.declared.fault.ContainerFault.TheVariants.{EndsInHeader, UnknownVersion, EntriesOutside, EntryOutside, ChecksumDiffers, ForkOutside}
use Rattle.mac_files.specs.Parts.{lies_within}
use Rattle.mac_files.specs.Crc.{crc_of}
use Rattle.mac_files.specs.Apple.{version, is_known, entry_count, list_end, entry_outside}
use Rattle.mac_files.specs.MacBinary.{data_fork, resource_fork}

-- the file has fewer bytes than the header
abbrev pub header_fault : ℕ → List ℕ → Option ContainerFault
header_fault needed file = if nat_lt (length file) needed then Some (EndsInHeader needed (length file)) else None

-- the version isn't known
abbrev pub version_fault : List ℕ → Option ContainerFault
version_fault file = if is_known (version file) then None else Some (UnknownVersion (version file))

-- the list of entries ends outside the file
abbrev pub list_fault : List ℕ → Option ContainerFault
list_fault file = if nat_lt (length file) (list_end file) then Some (EntriesOutside (entry_count file) (length file)) else None

-- an entry has bytes outside the file: the first of the list
abbrev pub entry_fault : List ℕ → Option ContainerFault
entry_fault file = option_map (λ (e : Entry). EntryOutside e (length file)) (entry_outside file)

-- the first fault of AppleSingle or AppleDouble
abbrev pub apple_fault : List ℕ → Option ContainerFault
apple_fault file = option_or (header_fault 26 file) (option_or (version_fault file) (option_or (list_fault file) (entry_fault file)))

-- the checksum in the header isn't that of the 124 bytes before it
abbrev pub sum_fault : List ℕ → Option ContainerFault
sum_fault file = let stored = big_from 124 2 file in let computed = crc_of (take 124 file) in
    if stored == computed then None else Some (ChecksumDiffers stored computed)

-- version I has none
abbrev pub checksum_fault : Version → List ℕ → Option ContainerFault
checksum_fault I file = None
checksum_fault II file = sum_fault file
checksum_fault III file = sum_fault file

-- a fork has bytes outside the file
abbrev pub fork_fault : Fork → Part → List ℕ → Option ContainerFault
fork_fault fork part file = if lies_within (length file) part then None else Some (ForkOutside fork part (length file))

-- the first fault of MacBinary
abbrev pub mac_binary_fault : Version → List ℕ → Option ContainerFault
mac_binary_fault version file = option_or (header_fault 128 file) (option_or (checksum_fault version file)
    (option_or (fork_fault Data (data_fork file) file) (fork_fault Resource (resource_fork file) file)))
