-- What is found in a partition.
use Rattle.std.proofs.Common.{◌≡◌, ℕ, ◌<◌, ◌≤◌, List, length, Option, Err, refl}
use Rattle.std.proofs.lemmas.Bool.{le-leb, lt-leb}
use Rattle.disk_image.specs.declared.fault.ImageFault.TheVariants.{Start}
use Rattle.disk_image.specs.declared.known.Format.{Format}
use Rattle.disk_image.specs.declared.part.Part.{Part}
use Rattle.disk_image.specs.Maps.{bytes_of_part}
use Rattle.disk_image.specs.Images.{format_of, volume_in, found_of}

pub starts_after : (disk : List ℕ) (part : Part) → length disk ≤ part.start → Err (Start part.number part.start) ≡ found_of disk part
unfolding found_of
starts_after disk part past = rw (le-leb (length disk) part.start past) refl

pub found_is : (disk bytes : List ℕ) (part : Part) (format : Option Format) → part.start < length disk → bytes ≡ bytes_of_part disk part → format ≡ format_of bytes
    → volume_in part.number bytes format ≡ found_of disk part
unfolding found_of
found_is disk bytes part format within is known = rw (lt-leb (length disk) part.start within, ← is, known) refl
