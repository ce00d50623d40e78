use Rattle.std.proofs.Common.{◌≡◌, ℕ, List, Result, Ok, subst, sym}
use Rattle.pict_bytes.specs.declared.fault.Fault.{Fault as Unread}
use Rattle.pict_bytes.specs.declared.sequence.Head.{Head}
use Rattle.pict_bytes.specs.declared.sequence.Opcode.{Opcode}
use Rattle.pict_bytes.specs.Sequence.{head_of, opcodes_of}
use Rattle.fork_drawings.specs.declared.fault.NotDrawn.{NotDrawn}
use Rattle.fork_drawings.specs.declared.picture.Drawing.{Drawing}
use Rattle.fork_drawings.specs.Pictures.{Draws, framed, picture_of, read_then}
use Rattle.fork_drawings.proofs.picture.picture_of.Goals as goal

-- a head and opcodes that are read are drawn
drawn : (result : Result Drawing NotDrawn) (bytes : List ℕ) (head : Head) (opcodes own : List Opcode) → head_of bytes ≡ Ok head
    → opcodes_of bytes ≡ Ok opcodes → own ≡ opcodes → Draws result (framed bytes head.frame own) → Draws result (picture_of bytes)
drawn result bytes head opcodes own first rest same is =
    let ByHead : Result Head Unread → Type 0 =
    λ read. Draws result (read_then read (λ head. read_then (opcodes_of bytes) (λ opcodes. framed bytes head.frame opcodes))) in
    let ByList : Result (List Opcode) Unread → Type 0 = λ read. Draws result (read_then read (λ opcodes. framed bytes head.frame opcodes)) in
    let Drawn : List Opcode → Type 0 = λ list. Draws result (framed bytes head.frame list) in
    subst ByHead (sym first) (subst ByList (sym rest) (subst Drawn same is))

pub returns-in-Ok-opcodes_of : goal.returns-in-Ok-opcodes_of
returns-in-Ok-opcodes_of c =
    drawn c.framed.result c.args.bytes.now c.in-Ok.head c.in-Ok-opcodes_of.opcodes.items c.deref.result.now (sym c.in-Ok.ensures.is)
    c.in-Ok-opcodes_of.ensures (cc) c.framed.ensures
