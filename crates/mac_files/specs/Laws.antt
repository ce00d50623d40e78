-- What a file that is written as its format says is known as.
use Rattle.std.specs.Prelude.{◌≡◌, ◌≢◌, ◌⊎◌, ℕ, List, [], ◌∷◌, length, take, slice_index, nat_eq, Some, true}
use Rattle.std.specs.List.{starts_with}
use Rattle.byteorder.specs.Endian.{big_from}
use Rattle.mac_files.specs.declared.container.Version.{Version}
use Rattle.mac_files.specs.declared.container.Container.TheVariants.{AppleSingle, AppleDouble, MacBinary}
use Rattle.mac_files.specs.MacBinary.{version_of}
use Rattle.mac_files.specs.Containers.{container_of, is_raw, is_raw_by}

-- the filler after the version, from 8 to 23, is a text, as version 1 has it, or zero, as version 2 has it
abbrev pub HasFiller : List ℕ → Type 0
HasFiller file = (slice_index file 8 ≢ 0) ⊎ (big_from 12 4 file ≡ 0)

-- AppleSingle and AppleDouble are known as such
abbrev pub SingleIsKnown : Type 0
SingleIsKnown = (file : List ℕ) → starts_with nat_eq file (0 ∷ 5 ∷ 22 ∷ 0 ∷ []) ≡ true → HasFiller file
    → container_of file ≡ Some AppleSingle

abbrev pub DoubleIsKnown : Type 0
DoubleIsKnown = (file : List ℕ) → starts_with nat_eq file (0 ∷ 5 ∷ 22 ∷ 7 ∷ []) ≡ true → HasFiller file
    → container_of file ≡ Some AppleDouble

-- the name, from 2 on, has a third character, or it is short and zeros follow it
abbrev pub HasName : List ℕ → Type 0
HasName file = (slice_index file 4 ≢ 0) ⊎ (big_from 12 4 file ≡ 0)

-- MacBinary is known as such, unless its name begins with the control character that the magic of AppleSingle has there
abbrev pub MacBinaryIsKnown : Type 0
MacBinaryIsKnown = (file : List ℕ) (version : Version) → version_of file ≡ Some version → slice_index file 2 ≢ 22 → HasName file
    → container_of file ≡ Some (MacBinary version)

-- a file is known by its first 128 bytes
abbrev pub FrontIsKnown : Type 0
FrontIsKnown = (file : List ℕ) → container_of (take 128 file) ≡ container_of file

-- and as a fork and nothing else by these and by its length
abbrev pub RawIsKnown : Type 0
RawIsKnown = (file : List ℕ) → is_raw_by (length file) (take 128 file) ≡ is_raw file
