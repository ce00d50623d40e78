-- Regions (Inside Macintosh: Imaging With QuickDraw, "Basic QuickDraw", "Regions"; appendix A).
use Rattle.std.specs.Prelude.{◌≡◌, ℕ, ◌+◌, ◌-◌, ◌*◌, ◌/◌, ◌%◌, ◌==◌, ◌&&◌, ◌||◌, ◌++◌, is_none, nat_lt, nat_le, if◌then◌else◌, Bool, List, [], ◌∷◌, map, count_by, Option, Some, None}
use Rattle.std.specs.List.{range_with_len}
use Rattle.byteorder.specs.Endian.{big_from}
use Rattle.pict_bytes.specs.declared.bits.Rect.{Rect}
use Rattle.pict_bytes.specs.Maps.{coordinate, rect_at}
use Rattle.fork_drawings.specs.declared.region.Point.{Point}
use Rattle.fork_drawings.specs.declared.region.Region.{Region}

-- the greatest number ends a row of columns, and where a row would be all rows
abbrev pub is_end : Option ℕ → ℕ → Bool
is_end row word = is_none row && word == 65535

-- the row that the words after a word are in, if they are in one
abbrev pub row_after : Option ℕ → ℕ → Option ℕ
row_after None word = Some word
row_after (Some row) word = if word == 65535 then None else Some row

-- the point that a word is, if it is one
abbrev pub added : Option ℕ → ℕ → List Point
added None word = []
added (Some row) word = if word == 65535 then [] else record { y = row; x = word } ∷ []

-- the points in words: rows, each with its columns
abbrev pub points_in : Option ℕ → List ℕ → List Point
points_in row [] = []
points_in row (word ∷ words) = if is_end row word then [] else added row word ++ points_in (row_after row word) words

-- the words of the region at a place, after its size and its rectangle
abbrev pub word_of : List ℕ → ℕ → ℕ → ℕ
word_of bytes at place = coordinate bytes (at + 10 + 2 * place)

abbrev pub count_at : List ℕ → ℕ → ℕ
count_at bytes at = (big_from at 2 bytes - 10) / 2

-- how many points turn a dot over: those that it is neither above nor left of
abbrev pub count_turned : ℕ → ℕ → List Point → ℕ
count_turned x y points = count_by (λ point. nat_le point.y y && nat_le point.x x) points

-- whether a dot is in a region: in its rectangle, and this is the whole region, or points turn it over an odd number of
-- times
abbrev pub has : Rect → Bool → List Point → ℕ → ℕ → Bool
has bounds is_rectangle points x y =
    nat_le bounds.left x && (nat_lt x bounds.right && (nat_le bounds.top y && (nat_lt y bounds.bottom
    && (is_rectangle || count_turned x y points % 2 == 1))))

-- the points of the region at a place, and whether it is only a rectangle: no words follow it
abbrev pub points_at : List ℕ → ℕ → List Point
points_at bytes at = points_in None (map (word_of bytes at) (range_with_len 0 (count_at bytes at)))

abbrev pub is_rectangle : List ℕ → ℕ → Bool
is_rectangle bytes at = nat_le (big_from at 2 bytes) 10

-- whether a dot is in the region at a place
unfoldable pub has_at : List ℕ → ℕ → ℕ → ℕ → Bool
has_at bytes at x y = has (rect_at bytes (at + 2)) (is_rectangle bytes at) (points_at bytes at) x y

-- a region as it was read at a place
pub record IsRegion (region : Region) (bytes : List ℕ) (at : ℕ) : Type 0 where
  pub bounds : region.bounds ≡ rect_at bytes (at + 2)
  pub shape : region.is_rectangle ≡ is_rectangle bytes at
  pub points : region.points.items ≡ points_at bytes at
