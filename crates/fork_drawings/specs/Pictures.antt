-- The picture that the bytes of a resource are.
use Rattle.std.specs.Prelude.{◌≡◌, ⊤, ℕ, ◌+◌, ◌-◌, ◌*◌, ◌==◌, ◌||◌, nat_lt, if◌then◌else◌, Bool, List, [], ◌∷◌, Option, Some, None, Result, Ok, Err}
use Rattle.fork_pictures.specs.Image.{Image, most, raster}
use Rattle.pict_bytes.specs.declared.bits.Rect.{Rect}
use Rattle.pict_bytes.specs.declared.fault.Fault.{Fault as Unread}
use Rattle.pict_bytes.specs.declared.operands.Bits.{Bits}
use Rattle.pict_bytes.specs.declared.sequence.Opcode.{Opcode}
use Rattle.pict_bytes.specs.Maps.{height, width}
use Rattle.pict_bytes.specs.Sequence.{head_of, opcodes_of}
use Rattle.pict_bytes.specs.Shapes.{shape_of}
use Rattle.fork_drawings.specs.declared.fault.Fault.{Fault}
use Rattle.fork_drawings.specs.declared.fault.Fault.TheVariants.{Opcodes, Empty, TooLarge, TooMuch}
use Rattle.fork_drawings.specs.declared.fault.NotDrawn.{NotDrawn}
use Rattle.fork_drawings.specs.declared.fault.NotDrawn.TheVariants as undrawn
use Rattle.fork_drawings.specs.declared.picture.Drawing.{Drawing}
use Rattle.fork_drawings.specs.declared.undrawn.Undrawn.{Undrawn}
use Rattle.fork_drawings.specs.Painting.{bits_in, clip_after, dot}
use Rattle.fork_drawings.specs.Regions.{count_at}
use Rattle.fork_drawings.specs.Spans.{first_row, last_row}
use Rattle.fork_drawings.specs.Lacking.{lacking}

-- how many words the points of a region have, if there is one
abbrev pub mask_work : List ℕ → Option ℕ → ℕ
mask_work bytes None = 0
mask_work bytes (Some region) = count_at bytes region

-- how much work a picture within a picture needs: each dot of the rows that it is drawn in, as often as there are points
-- of regions, the bytes of these rows, and the places of all its rows
abbrev pub bits_work : List ℕ → Rect → Option ℕ → Bits → ℕ
bits_work bytes frame clip bits =
    (last_row frame bits.target - first_row frame bits.target)
    * (width frame * (1 + (mask_work bytes clip + mask_work bytes bits.mask)) + bits.map.row)
    + height bits.map.bounds

abbrev pub drawn_work : List ℕ → Rect → Option ℕ → Option Bits → ℕ
drawn_work bytes frame clip None = 0
drawn_work bytes frame clip (Some bits) = bits_work bytes frame clip bits

-- how much work opcodes need
unfoldable pub work_of : List ℕ → Rect → Option ℕ → List Opcode → ℕ
work_of bytes frame clip [] = 0
work_of bytes frame clip (opcode ∷ opcodes) =
    drawn_work bytes frame clip (bits_in (shape_of opcode.code) bytes opcode.start) + work_of bytes frame (clip_after clip opcode) opcodes

abbrev pub is_too_much : List ℕ → Rect → List Opcode → Bool
is_too_much bytes frame opcodes = nat_lt 268435456 (work_of bytes frame None opcodes)

-- a picture, and what of it isn't drawn, if something isn't
pub record Sketch : Type 0 where
  pub image : Image
  pub undrawn : Option Undrawn

-- what is drawn of opcodes in a frame, with what isn't
abbrev pub drawn_with : List ℕ → Rect → List Opcode → Result (Option Undrawn) Fault → Result Sketch Fault
drawn_with bytes frame opcodes (Ok undrawn) =
    Ok (record { image = raster (width frame) (height frame) (dot bytes frame opcodes); undrawn = undrawn })
drawn_with bytes frame opcodes (Err fault) = Err fault

-- the picture of opcodes in a frame
abbrev pub framed : List ℕ → Rect → List Opcode → Result Sketch Fault
framed bytes frame opcodes =
    if width frame == 0 || height frame == 0 then Err Empty
    else if nat_lt most (width frame * height frame) then Err TooLarge
    else if is_too_much bytes frame opcodes then Err TooMuch
    else drawn_with bytes frame opcodes (lacking bytes opcodes)

-- what comes after opcodes or a head that are read, if they are right
abbrev pub read_then : {A B : Type 0} → Result A Unread → (A → Result B Fault) → Result B Fault
read_then (Ok value) next = next value
read_then (Err fault) next = Err (Opcodes fault)

-- the picture of bytes
abbrev pub picture_of : List ℕ → Result Sketch Fault
picture_of bytes = read_then (head_of bytes) (λ head. read_then (opcodes_of bytes) (λ opcodes. framed bytes head.frame opcodes))

-- the picture, or the fault, but that the host may have no memory
abbrev pub Draws : Result Drawing NotDrawn → Result Sketch Fault → Type 0
Draws (Ok drawing) answer = answer ≡ Ok (record { image = drawing.picture; undrawn = drawing.undrawn })
Draws (Err (undrawn.Fault fault)) answer = answer ≡ Err fault
Draws (Err undrawn.HostFull) answer = ⊤
