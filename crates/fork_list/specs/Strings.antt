-- The texts of resources (Inside Macintosh: Text, "Resources").
use Rattle.std.specs.Prelude.{ℕ, zero, suc, ◌+◌, ◌*◌, ◌==◌, nat_le, if◌then◌else◌, List, [], ◌∷◌, length, take, drop, map, Option, Some, None, option_map, option_and_then}
use Rattle.fork_list.specs.declared.strings.Front.{Front}

-- a string that bytes begin with, and the bytes after it
pub record FirstString : Type 0 where
  pub text : List ℕ
  pub rest : List ℕ

-- the same, of what code has
abbrev pub front_text : Front → FirstString
front_text front = record { text = front.text.now; rest = front.rest.now }

-- the string that bytes begin with: a byte that says how long it is, and so many bytes
abbrev pub first_string : List ℕ → Option FirstString
first_string [] = None
first_string (count ∷ bytes) = if nat_le count (length bytes) then Some (record { text = take count bytes; rest = drop count bytes }) else None

-- the text of a resource 'STR '
abbrev pub string_of : List ℕ → Option (List ℕ)
string_of resource = option_map (λ first. first.text) (first_string resource)

-- so many strings, one after the other
abbrev pub strings_from : ℕ → List ℕ → Option (List (List ℕ))
strings_from zero bytes = Some []
strings_from (suc count) bytes =
    option_and_then (λ first. option_map (λ texts. first.text ∷ texts) (strings_from count first.rest)) (first_string bytes)

-- the texts of a resource 'STR#': how many, in two bytes, and so many strings
abbrev pub strings_of : List ℕ → Option (List (List ℕ))
strings_of (high ∷ low ∷ bytes) = strings_from (high * 256 + low) bytes
strings_of (only ∷ []) = None
strings_of [] = None

-- a text whose lines end in line feeds, and not in carriage returns
abbrev pub lines_of : List ℕ → List ℕ
lines_of text = map (λ byte. if byte == 13 then 10 else byte) text
