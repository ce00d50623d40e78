-- By which bytes a container is known, and what it says.
use Rattle.std.specs.Prelude.{ℕ, ◌+◌, ◌==◌, nat_le, ◌&&◌, ◌||◌, if◌then◌else◌, Bool, List, [], ◌∷◌, length, take, slice_index, nat_eq, Option, None, Some, is_none, option_map}
use Rattle.std.specs.List.{list_any, starts_with}
use Rattle.byteorder.specs.Endian.{big_from}
use Rattle.mac_files.specs.declared.container.Container.{Container}
use Rattle.mac_files.specs.declared.container.Container.TheVariants.{Raw, AppleSingle, AppleDouble, MacBinary}
use Rattle.mac_files.specs.declared.contents.Contents.{Contents}
use Rattle.mac_files.specs.declared.fault.ContainerFault.{ContainerFault}
use Rattle.mac_files.specs.Parts.{bytes_of, has_bytes}
use Rattle.mac_files.specs.Apple.{apple_contents}
use Rattle.mac_files.specs.MacBinary.{version_of, mac_binary_contents}
use Rattle.mac_files.specs.Faults.{apple_fault, mac_binary_fault}

-- the file begins with the header of a resource fork: two offsets and two lengths, all below 2^24, and the map has its
-- 28 bytes
unfoldable pub is_fork_header : List ℕ → Bool
is_fork_header file = nat_le 16 (length file) && (slice_index file 0 == 0) && (slice_index file 4 == 0) && (slice_index file 8 == 0)
    && (slice_index file 12 == 0) && nat_le 28 (big_from 12 4 file)

-- the container that a file is known as; no container begins with the header of a resource fork
abbrev pub container_of : List ℕ → Option Container
container_of file =
    if is_fork_header file then Some Raw
    else if starts_with nat_eq file (0 ∷ 5 ∷ 22 ∷ 0 ∷ []) then Some AppleSingle
    else if starts_with nat_eq file (0 ∷ 5 ∷ 22 ∷ 7 ∷ []) then Some AppleDouble
    else option_map MacBinary (version_of file)

-- the header of a fork whose data and map lie within a file of so many bytes; one of its bytes is zero, as none of a
-- text is
unfoldable pub has_fork_parts : ℕ → List ℕ → Bool
has_fork_parts size front = nat_le 16 (length front) && list_any (λ byte. byte == 0) (take 16 front)
    && nat_le (big_from 0 4 front + big_from 8 4 front) size && nat_le (big_from 4 4 front + big_from 12 4 front) size && nat_le 28 (big_from 12 4 front)

-- a file of so many bytes, that begins with these, is known as a resource fork and nothing else
abbrev pub is_raw_by : ℕ → List ℕ → Bool
is_raw_by size front = is_fork_header front || (is_none (container_of front) && has_fork_parts size front)

abbrev pub is_raw : List ℕ → Bool
is_raw file = is_raw_by (length file) file

-- the first fault of a file that is read as this container
abbrev pub fault_of : Container → List ℕ → Option ContainerFault
fault_of Raw file = None
fault_of AppleSingle file = apple_fault file
fault_of AppleDouble file = apple_fault file
fault_of (MacBinary version) file = mac_binary_fault version file

-- what the container says of a file
abbrev pub contents_of : Container → List ℕ → Contents
contents_of Raw file = record {
  resource_fork = has_bytes (record { offset = 0; length = length file });
  data_fork = None;
  name = None;
  comment = None;
  finder = None;
  dates = None;
}
contents_of AppleSingle file = apple_contents file
contents_of AppleDouble file = apple_contents file
contents_of (MacBinary version) file = mac_binary_contents file

-- the bytes of the resource fork and of the data fork
abbrev pub fork_in : Container → List ℕ → Option (List ℕ)
fork_in container file = option_map (λ part. bytes_of part file) (contents_of container file).resource_fork

abbrev pub data_in : Container → List ℕ → Option (List ℕ)
data_in container file = option_map (λ part. bytes_of part file) (contents_of container file).data_fork
