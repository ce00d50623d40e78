-- What a file is known as.
use Rattle.std.specs.Prelude.{ℕ, Bool, true, false, List, codes, Option, None, Some}
use Rattle.mac_files.specs.declared.archive.Archive.{Archive}
use Rattle.mac_files.specs.declared.container.Container.{Container}
use Rattle.mac_files.specs.declared.container.Container.TheVariants as container
use Rattle.mac_files.specs.declared.container.Version.TheVariants.{I, II, III}
use Rattle.mac_files.specs.declared.kind.FileKind.{FileKind}
use Rattle.mac_files.specs.declared.kind.FileKind.TheVariants.{Archive as Holds, BinHex, Container as In, Unknown}
use Rattle.mac_files.specs.Archives.{archive_of}
use Rattle.mac_files.specs.BinHex.{is_bin_hex}
use Rattle.mac_files.specs.Containers.{container_of}

-- a container comes before a text, and a text before an archive
abbrev pub first_kind : Option Container → Bool → Option Archive → FileKind
first_kind (Some container) is_text archive = In container
first_kind None true archive = BinHex
first_kind None false (Some archive) = Holds archive
first_kind None false None = Unknown

abbrev pub kind_of : List ℕ → FileKind
kind_of file = first_kind (container_of file) (is_bin_hex file) (archive_of file)

-- the whole of such a file is its resource fork, or is taken for one
abbrev pub is_alone : FileKind → Bool
is_alone (In container.Raw) = true
is_alone (In other) = false
is_alone BinHex = false
is_alone (Holds archive) = true
is_alone Unknown = true

-- such a file is known to have a resource fork in it, or to be one
abbrev pub is_known : FileKind → Bool
is_known (In container) = true
is_known BinHex = true
is_known (Holds archive) = false
is_known Unknown = false

-- what such a file is called
abbrev pub kind_text : FileKind → List ℕ
kind_text (In container.Raw) = codes "a resource fork"
kind_text (In container.AppleSingle) = codes "an AppleSingle file"
kind_text (In container.AppleDouble) = codes "an AppleDouble file"
kind_text (In (container.MacBinary I)) = codes "a MacBinary file"
kind_text (In (container.MacBinary II)) = codes "a MacBinary II file"
kind_text (In (container.MacBinary III)) = codes "a MacBinary III file"
kind_text BinHex = codes "a BinHex file"
kind_text (Holds archive) = codes "a resource fork"
kind_text Unknown = codes "a resource fork"
