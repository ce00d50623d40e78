-- The names of files and folders that resources are unpacked to.
use Rattle.std.specs.Prelude.{ℕ, ℤ, ◌+◌, ◌/◌, ◌%◌, ◌==◌, ◌&&◌, ◌||◌, not, nat_le, if◌then◌else◌, Bool, true, false, List, [], ◌∷◌, ◌++◌, take, map, codes, bytes_eq, Option, Some, None}
use Rattle.std.specs.List.{flat_map, list_any}
use Rattle.std.specs.Fmt.{decimal, digit_glyph, signed_decimal}

-- a byte that a file's name can't have as it is: `%` and two hexadecimal digits
abbrev pub escaped : ℕ → List ℕ
escaped byte = 37 ∷ digit_glyph true (byte / 16) ∷ digit_glyph true (byte % 16) ∷ []

-- capital and small letters
abbrev pub is_capital : ℕ → Bool
is_capital byte = nat_le 65 byte && nat_le byte 90

abbrev pub is_small : ℕ → Bool
is_small byte = nat_le 97 byte && nat_le byte 122

-- digits, and `#`, `+` and `-`
abbrev pub is_plain : ℕ → Bool
is_plain byte = (nat_le 48 byte && nat_le byte 57) || (byte == 35 || (byte == 43 || byte == 45))

-- a byte of a type, where the letter before it is small or not: `~` is before a letter of the other case, and a
-- blank is `_`
abbrev pub symbol : Bool → ℕ → List ℕ
symbol small byte =
    if is_capital byte then (if small then 126 ∷ byte ∷ [] else byte ∷ [])
    else if is_small byte then (if small then byte ∷ [] else 126 ∷ byte ∷ [])
    else if is_plain byte then byte ∷ []
    else if byte == 32 then 95 ∷ []
    else escaped byte

-- whether the last letter is small, after a byte
abbrev pub turned : Bool → ℕ → Bool
turned small byte = if is_capital byte then false else if is_small byte then true else small

-- the bytes of a type after a small letter or not
abbrev pub symbols : Bool → List ℕ → List ℕ
symbols small [] = []
symbols small (byte ∷ bytes) = symbol small byte ++ symbols (turned small byte) bytes

-- the folder of a type, which no other type has without regard to case
abbrev pub folder_name : List ℕ → List ℕ
folder_name kind = symbols false kind

-- a byte of a type in its plain folder: letters are as they are
abbrev pub plain_symbol : ℕ → List ℕ
plain_symbol byte =
    if is_capital byte then byte ∷ []
    else if is_small byte then byte ∷ []
    else if is_plain byte then byte ∷ []
    else if byte == 32 then 95 ∷ []
    else escaped byte

-- the plain folder of a type
abbrev pub plain_name : List ℕ → List ℕ
plain_name kind = flat_map plain_symbol kind

-- a letter without regard to its case
abbrev pub small_of : ℕ → ℕ
small_of byte = if is_capital byte then byte + 32 else byte

-- a name as a file system knows it that has no regard to case
abbrev pub folded : List ℕ → List ℕ
folded name = map small_of name

-- two types that differ, but not without regard to case
abbrev pub clash : List ℕ → List ℕ → Bool
clash kind other = not (bytes_eq other kind) && bytes_eq (folded other) (folded kind)

-- the folder of a type among the types of a file: the plain one, unless one of them clashes
abbrev pub folder_among : List (List ℕ) → List ℕ → List ℕ
folder_among types kind = if list_any (clash kind) types then folder_name kind else plain_name kind

-- whether a byte is in the name of a file as it is: printable ASCII, but nothing that means something to a file
-- system
abbrev pub is_shown : ℕ → Bool
is_shown byte = nat_le 32 byte && (nat_le byte 126 && not (list_any (λ other. byte == other) (codes "%/\\:*?\"<>|")))

-- a byte of a resource's name
abbrev pub letter : ℕ → List ℕ
letter byte = if is_shown byte then byte ∷ [] else escaped byte

-- which one a resource is of those with its type and id, unless it is the first
abbrev pub nth_text : ℕ → List ℕ
nth_text n = if n == 0 then [] else 46 ∷ decimal (n + 1)

-- a resource's name, if it has one: its first 72 bytes
abbrev pub name_text : Option (List ℕ) → List ℕ
name_text None = []
name_text (Some name) = 32 ∷ flat_map letter (take 72 name)

-- the file of a resource: its id, which one it is of several, and its name
abbrev pub file_name : ℤ → ℕ → Option (List ℕ) → List ℕ
file_name id n name = signed_decimal id ++ (nth_text n ++ (name_text name ++ codes ".bin"))
