-- The opcodes of a picture (Inside Macintosh: Imaging With QuickDraw, appendix A, "Version and header opcodes").
use Rattle.std.specs.Prelude.{◌≡◌, ⊤, ℕ, zero, suc, ◌+◌, ◌%◌, ◌==◌, nat_lt, if◌then◌else◌, List, [], ◌∷◌, length, Result, Ok, Err}
use Rattle.byteorder.specs.Endian.{big_from}
use Rattle.pict_bytes.specs.declared.fault.Fault.{Fault}
use Rattle.pict_bytes.specs.declared.fault.Fault.TheVariants as fault
use Rattle.pict_bytes.specs.declared.fault.NotRead.{NotRead}
use Rattle.pict_bytes.specs.declared.fault.NotRead.TheVariants as unread
use Rattle.pict_bytes.specs.declared.sequence.Head.{Head}
use Rattle.pict_bytes.specs.declared.sequence.Opcode.{Opcode}
use Rattle.pict_bytes.specs.declared.sequence.Version.{Version}
use Rattle.pict_bytes.specs.declared.sequence.Version.TheVariants.{One, Two}
use Rattle.pict_bytes.specs.Maps.{rect_at}
use Rattle.pict_bytes.specs.Operands.{end_of}
use Rattle.pict_bytes.specs.Reading.{and_then, within}
use Rattle.pict_bytes.specs.Shapes.{shape_of}

-- the value, as it is seen, or the fault, but that the host may have no memory
abbrev pub Answers : {A B : Type 0} → (A → B) → Result A NotRead → Result B Fault → Type 0
Answers seen (Ok value) answer = answer ≡ Ok (seen value)
Answers seen (Err (unread.Fault fault)) answer = answer ≡ Err fault
Answers seen (Err unread.HostFull) answer = ⊤

-- how many bytes an opcode has
abbrev pub code_long : Version → ℕ
code_long One = 1
code_long Two = 2

-- where the first opcode is, after that of the version
abbrev pub start_of : Version → ℕ
start_of One = 12
start_of Two = 14

-- where the next opcode is, after operands: those of two bytes are at even places
abbrev pub next : Version → ℕ → ℕ
next One end = end
next Two end = end + end % 2

-- the version: the opcode $11 and 1, or $0011 and $02FF
abbrev pub version_of : List ℕ → Result Version Fault
version_of bytes =
    if big_from 10 2 bytes == 0x1101 then Ok One
    else and_then (within bytes 14) (λ end. if big_from 10 4 bytes == 0x001102FF then Ok Two else Err (fault.Version 10))

-- what a picture begins with: a word that means nothing, its frame, and the version
abbrev pub head_of : List ℕ → Result Head Fault
head_of bytes =
    if nat_lt 16777216 (length bytes) then Err fault.TooLarge
    else and_then (within bytes 12) (λ end.
    and_then (version_of bytes) (λ version. Ok (record { frame = rect_at bytes 2; version = version })))

-- the opcode at a place, with its operands
abbrev pub opcode_at : Version → List ℕ → ℕ → Result Opcode Fault
opcode_at version bytes at =
    and_then (within bytes (at + code_long version)) (λ start.
    let code = big_from at (code_long version) bytes in
    and_then (end_of (shape_of code) bytes start) (λ end.
    Ok (record { at = at; code = code; start = start; end = end })))

-- the opcodes from a place on, at most so many, up to $FF, which ends the picture
unfoldable pub opcodes_from : Version → List ℕ → ℕ → ℕ → Result (List Opcode) Fault
opcodes_from version bytes zero at = Err fault.TooMany
opcodes_from version bytes (suc most) at =
    and_then (opcode_at version bytes at) (λ opcode.
    if opcode.code == 0xFF then Ok (opcode ∷ [])
    else and_then (opcodes_from version bytes most (next version opcode.end)) (λ rest. Ok (opcode ∷ rest)))

-- the opcodes of a picture
abbrev pub opcodes_of : List ℕ → Result (List Opcode) Fault
opcodes_of bytes = and_then (head_of bytes) (λ head. opcodes_from head.version bytes 1048576 (start_of head.version))
