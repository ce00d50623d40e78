-- Archives and images of disks in the data forks of files.
use Rattle.std.specs.Prelude.{◌≡◌, ◌≢◌, ℕ, ◌==◌, Bool, List, [], length, unwrap_or, codes, bytes_eq, if◌then◌else◌, Option, None, Some, Ok}
use Rattle.path_text.specs.ShellWords.{shell_word}
use Rattle.mac_files.specs.declared.archive.Archive.{Archive}
use Rattle.mac_files.specs.declared.kind.FileKind.TheVariants.{BinHex}
use Rattle.mac_files.specs.Kinds.{kind_of}
use Rattle.mac_files.specs.OldFiles.{Said, data_archive, old_file}
use Rattle.fork_salvage.specs.Salvage.{items}

-- no resource is found in the fork of a file, and nothing that was one
abbrev pub lacks_resources : Said → Bool
lacks_resources it = length (items (unwrap_or it.resource_fork [])) == 0

-- the archive or image in a file without resources: what its data fork is known as
abbrev pub archive_inside : Said → Option Archive
archive_inside it = if lacks_resources it then data_archive it else None

-- the same of the bytes of a file; where the host has no memory for a text, nothing is known of it
abbrev pub IsInside : List ℕ → Option Archive → Type 0
IsInside file (Some archive) = (it : Said) × (old_file file ≡ Ok it) × (archive_inside it ≡ Some archive)
IsInside file None = kind_of file ≢ BinHex → (it : Said) → old_file file ≡ Ok it → archive_inside it ≡ None

-- what is reported of an opened file has its archive
abbrev pub HasArchive : List ℕ → Option Archive → Type 0
HasArchive file archive = (it : Said) × (old_file file ≡ Ok it) × (archive ≡ archive_inside it)

-- a file as a word of a command that can be typed; "-" is the standard input
abbrev pub operand : List ℕ → List ℕ
operand file = if bytes_eq file (codes "-") then codes "-" else shell_word file
