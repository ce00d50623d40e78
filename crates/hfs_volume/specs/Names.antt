-- Names of folders and files.
use Rattle.std.specs.Prelude.{ℕ, List, ◌++◌, length, take, drop, replicate}
use Rattle.hfs_volume.specs.declared.name.Name.{Name}

-- the name with these bytes, and zeros where they are fewer than 31
abbrev pub name_in : List ℕ → Name
name_in bytes = record { length = length bytes; bytes = bytes ++ drop (length bytes) (replicate 31 0) }

-- the bytes of a name
abbrev pub name_bytes : Name → List ℕ
name_bytes name = take name.length name.bytes
