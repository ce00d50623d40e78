-- What opcodes draw that isn't drawn (Inside Macintosh: Imaging With QuickDraw, appendix A, "Picture Opcodes").
use Rattle.std.specs.Prelude.{ℕ, ◌+◌, ◌/◌, ◌%◌, ◌==◌, ◌&&◌, ◌||◌, nat_le, nat_lt, if◌then◌else◌, Bool, true, false, List, [], ◌∷◌, count_by, is_none, is_some, Option, Some, None, Result, Ok, Err}
use Rattle.std.specs.List.{list_all, list_any}
use Rattle.byteorder.specs.Endian.{big_from}
use Rattle.pict_bytes.specs.declared.sequence.Opcode.{Opcode}
use Rattle.pict_bytes.specs.declared.shape.Shape.{Shape}
use Rattle.pict_bytes.specs.declared.shape.Shape.TheVariants as shape
use Rattle.pict_bytes.specs.Shapes.{shape_of}
use Rattle.fork_drawings.specs.declared.fault.Fault.{Fault}
use Rattle.fork_drawings.specs.declared.fault.Fault.TheVariants.{Nothing}
use Rattle.fork_drawings.specs.declared.undrawn.Undrawn.{Undrawn}
use Rattle.fork_drawings.specs.Painting.{bits_in}

-- opcodes that draw lines, and texts
abbrev pub is_line : ℕ → Bool
is_line code = nat_le 0x20 code && nat_le code 0x23

abbrev pub is_text : ℕ → Bool
is_text code = nat_le 0x28 code && nat_le code 0x2B

-- opcodes that draw shapes of a family, by their first digit: of its second the first five of eight, and the rest is
-- reserved
abbrev pub is_shape : ℕ → ℕ → Bool
is_shape family code = code / 16 == family && nat_lt (code % 8) 5

-- opcodes that draw images of QuickTime
abbrev pub is_quicktime : ℕ → Bool
is_quicktime code = code == 0x8200 || code == 0x8201

-- an opcode that moves the origin of what is drawn after it
abbrev pub is_move : List ℕ → Opcode → Bool
is_move bytes opcode = opcode.code == 0x0C && (nat_lt 0 (big_from opcode.start 2 bytes) || nat_lt 0 (big_from (opcode.start + 2) 2 bytes))

-- an opcode with a map, which is drawn, or isn't
abbrev pub has_map : Shape → Bool
has_map (shape.Bits storage masked) = true
has_map other = false

abbrev pub is_drawn : List ℕ → Opcode → Bool
is_drawn bytes opcode = is_some (bits_in (shape_of opcode.code) bytes opcode.start)

abbrev pub is_left : List ℕ → Opcode → Bool
is_left bytes opcode = has_map (shape_of opcode.code) && is_none (bits_in (shape_of opcode.code) bytes opcode.start)

-- how many opcodes of each kind aren't drawn
abbrev pub counted : List ℕ → List Opcode → Undrawn
counted bytes opcodes =
    record {
      lines = count_by (λ opcode. is_line opcode.code) opcodes;
      rectangles = count_by (λ opcode. is_shape 3 opcode.code) opcodes;
      round_rectangles = count_by (λ opcode. is_shape 4 opcode.code) opcodes;
      ovals = count_by (λ opcode. is_shape 5 opcode.code) opcodes;
      arcs = count_by (λ opcode. is_shape 6 opcode.code) opcodes;
      polygons = count_by (λ opcode. is_shape 7 opcode.code) opcodes;
      regions = count_by (λ opcode. is_shape 8 opcode.code) opcodes;
      texts = count_by (λ opcode. is_text opcode.code) opcodes;
      maps = count_by (is_left bytes) opcodes;
      images = count_by (λ opcode. is_quicktime opcode.code) opcodes;
      moves = count_by (is_move bytes) opcodes;
    }

abbrev pub counts : Undrawn → List ℕ
counts it =
    it.lines ∷ it.rectangles ∷ it.round_rectangles ∷ it.ovals ∷ it.arcs ∷ it.polygons ∷ it.regions ∷ it.texts ∷ it.maps ∷ it.images ∷ it.moves ∷ []

-- all of them are drawn
abbrev pub is_empty : Undrawn → Bool
is_empty it = list_all (λ count. count == 0) (counts it)

-- what isn't drawn, if something isn't
abbrev pub undrawn_in : List ℕ → List Opcode → Option Undrawn
undrawn_in bytes opcodes = if is_empty (counted bytes opcodes) then None else Some (counted bytes opcodes)

-- the same; it is a fault where no map is drawn beside it
abbrev pub beside : Option Undrawn → Bool → Result (Option Undrawn) Fault
beside None some = Ok None
beside (Some undrawn) some = if some then Ok (Some undrawn) else Err (Nothing undrawn)

abbrev pub lacking : List ℕ → List Opcode → Result (Option Undrawn) Fault
lacking bytes opcodes = beside (undrawn_in bytes opcodes) (list_any (is_drawn bytes) opcodes)
