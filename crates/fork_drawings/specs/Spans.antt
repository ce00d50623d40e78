-- Which column of a map is drawn in a column of a picture, and which row in a row (Inside Macintosh: Imaging With
-- QuickDraw, "Basic QuickDraw", "CopyBits").
use Rattle.std.specs.Prelude.{ℕ, ◌+◌, ◌-◌, ◌*◌, ◌/◌, nat_lt, nat_le, ◌||◌, max, min, if◌then◌else◌, Option, Some, None}
use Rattle.pict_bytes.specs.declared.bits.Rect.{Rect}
use Rattle.pict_bytes.specs.declared.operands.Bits.{Bits}
use Rattle.pict_bytes.specs.Maps.{height}
use Rattle.fork_drawings.specs.declared.span.Course.{Course}

-- the columns and the rows of a picture within a picture
abbrev pub columns : Bits → Course
columns bits = record {
  source = record { low = bits.source.left; high = bits.source.right };
  target = record { low = bits.target.left; high = bits.target.right };
  bounds = record { low = bits.map.bounds.left; high = bits.map.bounds.right };
}

abbrev pub rows : Bits → Course
rows bits = record {
  source = record { low = bits.source.top; high = bits.source.bottom };
  target = record { low = bits.target.top; high = bits.target.bottom };
  bounds = record { low = bits.map.bounds.top; high = bits.map.bounds.bottom };
}

-- the coordinate of the source that is drawn at one of the target: the source is stretched to the target, and the
-- fraction dropped
abbrev pub stretched : Course → ℕ → ℕ
stretched course at =
    course.source.low + (at - course.target.low) * (course.source.high - course.source.low) / (course.target.high - course.target.low)

-- its place in the map; none outside of the target, and where the map has nothing
abbrev pub origin : Course → ℕ → Option ℕ
origin course at =
    if nat_lt at course.target.low || nat_le course.target.high at then None
    else if nat_lt (stretched course at) course.bounds.low || nat_le course.bounds.high (stretched course at) then None
    else Some (stretched course at - course.bounds.low)

-- the first row of a frame in which something is drawn that has these bounds, and the row after the last
abbrev pub first_row : Rect → Rect → ℕ
first_row frame target = min (target.top - frame.top) (height frame)

abbrev pub last_row : Rect → Rect → ℕ
last_row frame target = max (min (target.bottom - frame.top) (height frame)) (first_row frame target)
