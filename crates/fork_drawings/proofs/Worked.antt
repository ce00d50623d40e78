-- How much work opcodes need, opcode by opcode.
use Rattle.std.proofs.Common.{◌≡◌, ℕ, ◌+◌, ◌<◌, ◌≤◌, true, false, List, Option, length, drop, get_or, refl, arith}
use Rattle.std.specs.Prelude.{nat_lt}
use Rattle.std.proofs.lemmas.Bool.Decides.{nat_tests}
use Rattle.std.proofs.lemmas.List.{drop_all, drop_more}
use Rattle.pict_bytes.specs.declared.bits.Rect.{Rect}
use Rattle.pict_bytes.specs.declared.sequence.Opcode.{Opcode}
use Rattle.pict_bytes.specs.Shapes.{shape_of}
use Rattle.fork_drawings.specs.Painting.{bits_in, clip_after}
use Rattle.fork_drawings.specs.Pictures.{drawn_work, work_of}

-- the next opcode
pub work_step : (bytes : List ℕ) (frame : Rect) (clip : Option ℕ) (opcodes : List Opcode) (i : ℕ) (default : Opcode) → i < length opcodes
    → let own = get_or opcodes i default in
    work_of bytes frame clip (drop i opcodes)
    ≡ drawn_work bytes frame clip (bits_in (shape_of own.code) bytes own.start) + work_of bytes frame (clip_after clip own) (drop (i + 1) opcodes)
unfolding work_of
work_step bytes frame clip opcodes i default below = rw (drop_more opcodes i default below) refl

-- no opcode is left
pub no_work : (bytes : List ℕ) (frame : Rect) (clip : Option ℕ) (opcodes : List Opcode) (i : ℕ) → length opcodes ≤ i
    → work_of bytes frame clip (drop i opcodes) ≡ 0
unfolding work_of
no_work bytes frame clip opcodes i past = rw (drop_all i opcodes past) refl

-- whether it is too much
pub too_much : (work : ℕ) → 268435456 < work → true ≡ nat_lt 268435456 work
too_much work more = grind (arith, nat_tests)

pub not_too_much : (work : ℕ) → work ≤ 268435456 → false ≡ nat_lt 268435456 work
not_too_much work few = grind (arith, nat_tests)
