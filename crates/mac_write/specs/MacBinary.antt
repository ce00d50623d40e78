-- MacBinary with another resource fork.
use Rattle.std.specs.Prelude.{ℕ, nat_lt, if◌then◌else◌, List, ◌++◌, length, take, drop, Option, None, Some}
use Rattle.byteorder.specs.Endian.{big_bytes}
use Rattle.mac_files.specs.declared.container.Version.{Version}
use Rattle.mac_files.specs.declared.container.Version.TheVariants.{I, II, III}
use Rattle.mac_files.specs.Crc.{crc_of}
use Rattle.mac_files.specs.MacBinary.{comment_place, padded, resource_fork}
use Rattle.mac_write.specs.declared.refusal.Refusal.{Refusal}
use Rattle.mac_write.specs.declared.refusal.Refusal.TheVariants.{TooLong}
use Rattle.mac_write.specs.Bytes.{filled, put}

-- the header with its checksum at 124, where the version has one
abbrev pub with_sum : Version → List ℕ → List ℕ
with_sum I header = header
with_sum II header = put 124 (big_bytes 2 (crc_of (take 124 header))) header
with_sum III header = put 124 (big_bytes 2 (crc_of (take 124 header))) header

-- what comes before the resource fork, with the fork's length at 87
abbrev pub binary_front : Version → List ℕ → ℕ → List ℕ
binary_front version file count =
    let place = (resource_fork file).offset in
    with_sum version (put 87 (big_bytes 4 count) (filled place (take place file)))

-- the new file: what comes before the fork, the fork with the zeros that fill its last 128 bytes, and what followed it
abbrev pub binary_with_fork : Version → List ℕ → List ℕ → List ℕ
binary_with_fork version file fork =
    binary_front version file (length fork) ++ (filled (padded (length fork)) fork ++ drop (comment_place file) file)

-- the most bytes of a fork
abbrev pub longest_fork : Version → ℕ
longest_fork I = 0x7FFFFF
longest_fork II = 0xFFFFFFFF
longest_fork III = 0xFFFFFFFF

-- why the fork isn't written
abbrev pub binary_refusal : Version → ℕ → Option Refusal
binary_refusal version count =
    if nat_lt (longest_fork version) count then Some (TooLong count (longest_fork version)) else None
