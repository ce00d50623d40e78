-- Paths of files that are read.
use Rattle.std.specs.Prelude.{◌≡◌, ℕ, ◌==◌, ◌&&◌, ◌||◌, Bool, false, true, not, List, [], codes, bytes_eq, string_bytes, ⊤}
use Rattle.std.specs.List.{after_first, before_first, list_any}
use Rattle.fork_folder.specs.declared.rows.Entry.{Entry}
use Rattle.fork_folder.specs.declared.rows.Flaw.TheVariants.{Path}
use Rattle.fork_folder.specs.declared.rows.PackFault.{PackFault}
use Rattle.fork_folder.specs.declared.rows.PackFault.TheVariants.{BadEntry}

-- what can't be in the name of a file: `/`, which is 47, and 0
abbrev pub is_end : ℕ → Bool
is_end byte = byte == 47 || byte == 0

-- what names the folder itself or the one above
abbrev pub is_dots : List ℕ → Bool
is_dots part = bytes_eq part [] || (bytes_eq part (codes ".") || bytes_eq part (codes ".."))

-- a part of a path that names something in its folder
abbrev pub is_plain : List ℕ → Bool
is_plain part = not (is_dots part) && not (list_any is_end part)

-- a path of a folder and a file in it
abbrev pub is_inside : List ℕ → Bool
is_inside path = is_plain (before_first (λ byte. byte == 47) path) && is_plain (after_first (λ byte. byte == 47) path)

-- the file of an entry is in a folder of the folder
abbrev pub IsInFolder : Entry → Type 0
IsInFolder entry = is_inside (string_bytes entry.file) ≡ true

-- a path that is refused isn't
abbrev pub IsRefusedPath : PackFault → Type 0
IsRefusedPath (BadEntry file Path) = is_inside (string_bytes file) ≡ false
IsRefusedPath _ = ⊤
