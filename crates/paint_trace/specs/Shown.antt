-- What is printed of the palette.
use Rattle.std.specs.Prelude.{ℕ, ◌==◌, ◌&&◌, if◌then◌else◌, Bool, List, codes, length}
use Rattle.std.specs.List.{list_all}

-- 48 bytes, all of one grey
abbrev pub is_grey : List ℕ → Bool
is_grey bytes = length bytes == 48 && list_all (λ byte. byte == 128) bytes

-- what is printed of a palette with these bytes
abbrev pub palette_text : List ℕ → List ℕ
palette_text bytes = if is_grey bytes then codes "the palette is as it was" else codes "the palette has changed"
