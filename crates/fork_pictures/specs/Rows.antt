-- Rows of pixels in bytes (Inside Macintosh: Imaging With QuickDraw, "Bitmaps", "Pixel maps").
use Rattle.std.specs.Prelude.{ℕ, ◌+◌, ◌-◌, ◌*◌, ◌/◌, ◌%◌, ◌^◌, List, slice_index}
use Rattle.fork_pictures.specs.declared.rows.Depth.{Depth}
use Rattle.fork_pictures.specs.declared.rows.Depth.TheVariants.{One, Two, Four, Eight}
use Rattle.fork_pictures.specs.declared.rows.Rows.{Rows}

-- how many values a pixel can have
abbrev pub levels : Depth → ℕ
levels One = 2
levels Two = 4
levels Four = 16
levels Eight = 256

-- how many pixels are in a byte
abbrev pub each : Depth → ℕ
each One = 8
each Two = 4
each Four = 2
each Eight = 1

-- the pixel at a place in a byte, of which the highest bits are the leftmost
abbrev pub part : Depth → ℕ → ℕ → ℕ
part One byte place = byte / 2 ^ (7 - place) % 2
part Two byte place = byte / 2 ^ (6 - 2 * place) % 4
part Four byte place = byte / 2 ^ (4 - 4 * place) % 16
part Eight byte place = byte

-- the value of the pixel in a column and a row
abbrev pub value_at : Rows → List ℕ → ℕ → ℕ → ℕ
value_at rows bytes x y = part rows.depth (slice_index bytes (rows.start + rows.width * y + x / each rows.depth)) (x % each rows.depth)
