-- What is known by the copy of a volume's block, and by an old map, where the bytes are long enough.
use Rattle.std.proofs.Common.{◌≡◌, ℕ, ◌-◌, ◌*◌, ◌/◌, ◌<◌, ◌≤◌, List, [], length, Option, None, refl}
use Rattle.std.proofs.lemmas.Bool.{le-leb, lt-leb}
use Rattle.fork_disk.specs.Disk.{bytes_at}
use Rattle.disk_image.specs.declared.known.Format.{Format}
use Rattle.disk_image.specs.declared.part.Part.{Part}
use Rattle.disk_image.specs.Known.{format_at, hfs_or_mfs, format_of_copy}
use Rattle.disk_image.specs.Maps.{old_parts_from, old_parts}

pub no_copy : (file : List ℕ) → length file < 1536 → None ≡ format_of_copy file
unfolding format_of_copy
no_copy file short = rw (lt-leb 1536 (length file) short) refl

pub copy_is : (file : List ℕ) (size : ℕ) (format : Option Format) → length file ≡ size → 1536 ≤ size → format ≡ format_at ((size / 512 - 2) * 512) file → hfs_or_mfs format ≡ format_of_copy file
unfolding format_of_copy
copy_is file size format long room is = rw (long, le-leb 1536 size room, is) refl

pub no_old_map : (disk : List ℕ) → length disk < 1024 → [] ≡ old_parts disk
unfolding old_parts
no_old_map disk short = rw (lt-leb 1024 (length disk) short) refl

pub old_map_is : (disk block : List ℕ) (parts : List Part) → 1024 ≤ length disk → block ≡ bytes_at 512 512 disk → parts ≡ old_parts_from block 0 42 → parts ≡ old_parts disk
unfolding old_parts
old_map_is disk block parts room is are = rw (le-leb 1024 (length disk) room, ← is) are
