-- Where in a text a place is.
use Rattle.std.specs.Prelude.{ℕ, ◌+◌, ◌-◌, ◌==◌, ◌&&◌, ◌||◌, not, Bool, List, ◌∷◌, length, take, count_by}
use Rattle.std.specs.List.{suffix_len, zip}
use Rattle.type_source.specs.declared.place.Place.{Place}

-- a byte ends a line: a carriage return, or a line feed that doesn't come right after one
abbrev pub ends_line : ℕ → ℕ → Bool
ends_line previous byte = byte == 13 || (byte == 10 && not (previous == 13))

-- how many lines end in a text
abbrev pub line_ends : List ℕ → ℕ
line_ends text = count_by (λ pair. ends_line pair.0 pair.1) (zip (0 ∷ text) text)

-- a byte is in a line
abbrev pub is_in_line : ℕ → Bool
is_in_line byte = not (byte == 10) && not (byte == 13)

-- the line and the column, both from 1 on, where so many bytes of a text are left
abbrev pub place_at : List ℕ → ℕ → Place
place_at text left = let front = take (length text - left) text in record { line = 1 + line_ends front; column = 1 + suffix_len is_in_line front }
