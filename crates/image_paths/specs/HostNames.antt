-- Names of a Macintosh's files as those of a host's.
use Rattle.std.specs.Prelude.{◌≡◌, ◌≢◌, ℕ, ◌/◌, ◌%◌, ◌==◌, nat_le, ◌&&◌, not, if◌then◌else◌, Bool, true, List, [], ◌∷◌, ◌++◌, slice_index, encode_utf8}
use Rattle.std.specs.Fmt.{digit_glyph}
use Rattle.std.specs.List.{flat_map, list_all}
use Rattle.fork_list.specs.Roman.{roman_char}

-- a byte that is its character: no control character, and none of `%`, `/` and `:`
abbrev pub is_plain : ℕ → Bool
is_plain byte = nat_le 32 byte && not (byte == 127) && not (byte == 37) && not (byte == 47) && not (byte == 58)

-- `%` and two digits
abbrev pub coded : ℕ → List ℕ
coded byte = 37 ∷ digit_glyph true (byte / 16) ∷ digit_glyph true (byte % 16) ∷ []

-- a slash is a colon, and another byte that isn't plain is coded
abbrev pub letter : ℕ → List ℕ
letter byte = if byte == 47 then 58 ∷ [] else if is_plain byte then encode_utf8 (roman_char byte) else coded byte

-- the first byte, which isn't a dot
abbrev pub first_letter : ℕ → List ℕ
first_letter byte = if byte == 46 then coded byte else letter byte

-- a name without bytes is `%`
abbrev pub host_name : List ℕ → List ℕ
host_name [] = 37 ∷ []
host_name (first ∷ rest) = first_letter first ++ flat_map letter rest

-- no control character, and no slash
abbrev pub is_harmless : ℕ → Bool
is_harmless byte = nat_le 32 byte && not (byte == 47) && not (byte == 127)

-- A name of a file in a folder of the host, and of no other: it has bytes, and begins with no dot, so that it is neither
-- the folder nor the one that this is in.
pub record IsHostName (text : List ℕ) : Type 0 where
  pub harmless : list_all is_harmless text ≡ true
  pub some : text ≢ []
  pub no_dot : slice_index text 0 ≢ 46
