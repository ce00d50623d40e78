-- The name that a path gives a file.
use Rattle.std.specs.Prelude.{◌≡◌, ◌⊎◌, ℕ, ◌-◌, ◌<◌, ◌==◌, nat_eq, nat_lt, Bool, ◌&&◌, if◌then◌else◌, List, [], ◌∷◌, map, drop, take, length, bytes_eq, codes}
use Rattle.std.specs.Char.{to_ascii_lowercase}
use Rattle.std.specs.List.{list_any, starts_with}
use Rattle.std.specs.Str.{chars}
use Rattle.fork_list.specs.Roman.{roman_char}

-- what comes after the last slash
abbrev pub last_part : List ℕ → List ℕ
last_part [] = []
last_part (byte ∷ rest) =
    if list_any (λ other. other == 47) rest then last_part rest else if byte == 47 then rest else byte ∷ rest

-- without the "._" with which the name of an AppleDouble file begins
abbrev pub unmarked : List ℕ → List ℕ
unmarked name = if starts_with nat_eq name (codes "._") then drop 2 name else name

-- whether a name ends so, in small letters or capitals, and isn't all of that
abbrev pub has_ending : List ℕ → List ℕ → Bool
has_ending ending name = nat_lt (length ending) (length name)
    && bytes_eq (map to_ascii_lowercase (drop (length name - length ending) name)) (map to_ascii_lowercase ending)

-- without the ending of a raw fork
abbrev pub without_ending : List ℕ → List ℕ
without_ending name =
    if has_ending (codes ".rsrc") name then take (length name - 5) name
    else if has_ending (codes ".rsr") name then take (length name - 4) name
    else name

-- the name of the file at a path, in MacRoman
abbrev pub name_in_path : List ℕ → List ℕ
name_in_path path = without_ending (unmarked (last_part path))

-- the byte of a character in MacRoman; of one that it hasn't, it is "_"
abbrev pub IsByteOf : ℕ → ℕ → Type 0
IsByteOf character byte = ((byte < 256) × (roman_char byte ≡ character))
    ⊎ ((byte ≡ 95) × ((other : ℕ) → other < 256 → ¬ (roman_char other ≡ character)))

-- the bytes of characters, one of each
abbrev pub AreBytesOf : List ℕ → List ℕ → Type 0
AreBytesOf [] [] = Unit {0}
AreBytesOf [] (byte ∷ bytes) = ⊥
AreBytesOf (character ∷ characters) [] = ⊥
AreBytesOf (character ∷ characters) (byte ∷ bytes) = IsByteOf character byte × AreBytesOf characters bytes

-- the name that a path gives a file
abbrev pub IsNameOfPath : List ℕ → List ℕ → Type 0
IsNameOfPath path name = (bytes : List ℕ) × AreBytesOf (chars path) bytes × (name ≡ name_in_path bytes)
