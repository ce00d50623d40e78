-- MacBinary: a header of 128 bytes, a second header, the data fork and the resource fork.
use Rattle.std.specs.Prelude.{ℕ, ◌+◌, ◌*◌, ◌/◌, ◌==◌, nat_le, ◌&&◌, if◌then◌else◌, Bool, List, take, drop, length, slice_index, slice_range, codes, nat_eq, Option, None, Some}
use Rattle.std.specs.List.{list_all, starts_with}
use Rattle.byteorder.specs.Endian.{big_from}
use Rattle.mac_files.specs.declared.part.Part.{Part}
use Rattle.mac_files.specs.declared.container.Version.{Version}
use Rattle.mac_files.specs.declared.container.Version.TheVariants.{I, II, III}
use Rattle.mac_files.specs.declared.contents.FinderInfo.{FinderInfo}
use Rattle.mac_files.specs.declared.contents.Contents.{Contents}
use Rattle.mac_files.specs.Parts.{has_bytes, lies_within}

-- what all versions have: a header of 128 bytes with zeros at 0, 74 and 82, and a name of 1 to 63 bytes, whose length
-- is at 1
unfoldable pub has_form : List ℕ → Bool
has_form file = nat_le 128 (length file) && (slice_index file 0 == 0) && (slice_index file 74 == 0) && (slice_index file 82 == 0)
    && nat_le 1 (slice_index file 1) && nat_le (slice_index file 1) 63

-- version III has a signature
unfoldable pub says_three : List ℕ → Bool
says_three file = starts_with nat_eq (drop 102 file) (codes "mBIN")

-- version II has the version that wrote it, from 129 on, and 129 as the least that reads it
unfoldable pub says_two : List ℕ → Bool
says_two file = nat_le 129 (slice_index file 122) && (slice_index file 123 == 129)

-- version I has zeros from 101 to 125, and no fork of more than $7FFFFF bytes
unfoldable pub says_one : List ℕ → Bool
says_one file = list_all (λ byte. byte == 0) (slice_range file 101 126)
    && nat_le (big_from 83 4 file) 0x7FFFFF && nat_le (big_from 87 4 file) 0x7FFFFF

-- the version that a file is known as
abbrev pub version_of : List ℕ → Option Version
version_of file =
    if has_form file then
    (if says_three file then Some III else if says_two file then Some II else if says_one file then Some I else None)
    else None

-- so many bytes, with those that fill the last 128
abbrev pub padded : ℕ → ℕ
padded length = (length + 127) / 128 * 128

-- the data fork, after the header and the second header, whose length is at 120
abbrev pub data_fork : List ℕ → Part
data_fork file = record { offset = 128 + padded (big_from 120 2 file); length = big_from 83 4 file }

-- the resource fork, after the data fork
abbrev pub resource_fork : List ℕ → Part
resource_fork file = record { offset = (data_fork file).offset + padded (data_fork file).length; length = big_from 87 4 file }

-- what the Finder knows of the file; the flags are in two bytes
abbrev pub header_finder : List ℕ → FinderInfo
header_finder file = record {
  kind = take 4 (drop 65 file);
  creator = take 4 (drop 69 file);
  flags = 256 * slice_index file 73 + slice_index file 101;
}

-- the name, unless it is too long
abbrev pub header_name : List ℕ → Option Part
header_name file = if nat_le (slice_index file 1) 63 then has_bytes (record { offset = 2; length = slice_index file 1 }) else None

-- where what follows the resource fork begins: the comment
abbrev pub comment_place : List ℕ → ℕ
comment_place file = (resource_fork file).offset + padded (resource_fork file).length

-- the comment, whose length is at 99, unless it ends outside the file
abbrev pub comment_of : List ℕ → Option Part
comment_of file =
    let part : Part = record { offset = comment_place file; length = big_from 99 2 file } in
    if lies_within (length file) part then has_bytes part else None

-- what the header says
abbrev pub mac_binary_contents : List ℕ → Contents
mac_binary_contents file = record {
  resource_fork = has_bytes (resource_fork file);
  data_fork = has_bytes (data_fork file);
  name = header_name file;
  comment = comment_of file;
  finder = Some (header_finder file);
  dates = Some (record { created = big_from 91 4 file; modified = big_from 95 4 file });
}
