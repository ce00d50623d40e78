-- MacRoman, a text encoding of one byte for each character.
use Rattle.std.specs.Prelude.{ℕ, ◌-◌, ◌<◌, nat_lt, if◌then◌else◌, List, map, slice_index, All, encode_utf8_all}
use Rattle.fork_list.specs.declared.roman.TheConstants.{UPPER}

-- the character of a byte: the same as in ASCII, or that of Apple's table
abbrev pub roman_char : ℕ → ℕ
roman_char byte = if nat_lt byte 128 then byte else slice_index UPPER (byte - 128)

-- the text of bytes, in UTF-8
abbrev pub roman_text : List ℕ → List ℕ
roman_text bytes = encode_utf8_all (map roman_char bytes)

-- numbers below 256
abbrev pub AreBytes : List ℕ → Type 0
AreBytes bytes = All (λ byte. byte < 256) bytes
