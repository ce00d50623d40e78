-- One step of a loop, and what is left.
use Rattle.std.proofs.Common.{◌≡◌, ◌≢◌, ℕ, suc, ◌+◌, ◌-◌, ◌<◌, ◌≤◌, List, [], ◌∷◌, ◌++◌, Bool, true, false, Result, Ok, Err, refl, ap, ◌∙◌, sym, arith}
use Rattle.std.specs.Prelude.{◌==◌}
use Rattle.std.proofs.lemmas.Bool.Decides.{nat_tests}
use Rattle.std.proofs.lemmas.List.{append_assoc}
use Rattle.pict_bytes.specs.declared.fault.Fault.{Fault}
use Rattle.pict_bytes.specs.declared.fault.Fault.TheVariants.{TooMany}
use Rattle.pict_bytes.specs.declared.sequence.Opcode.{Opcode}
use Rattle.pict_bytes.specs.declared.sequence.Version.{Version}
use Rattle.pict_bytes.specs.declared.sequence.Version.TheVariants.{One, Two}
use Rattle.pict_bytes.specs.Planes.{row_end, rows_end}
use Rattle.pict_bytes.specs.Reading.{and_then}
use Rattle.pict_bytes.specs.Sequence.{next, opcode_at, opcodes_from}

-- the next of so many rows
pub next_row : (bytes : List ℕ) (at after : ℕ) (wide : Bool) (count row : ℕ) → row < count → row_end bytes at wide ≡ Ok after
    → rows_end bytes at wide (count - row) ≡ rows_end bytes after wide (count - (row + 1))
next_row bytes at after wide count row below is =
    let more : count - row ≡ suc (count - (row + 1)) = omega arith in rw (more, is) refl

pub wrong_row : (bytes : List ℕ) (at : ℕ) (wide : Bool) (count row : ℕ) (fault : Fault) → row < count → row_end bytes at wide ≡ Err fault
    → rows_end bytes at wide (count - row) ≡ Err fault
wrong_row bytes at wide count row fault below is =
    let more : count - row ≡ suc (count - (row + 1)) = omega arith in rw (more, is) refl

-- opcodes, and those that come after them
abbrev pub after : List Opcode → Result (List Opcode) Fault → Result (List Opcode) Fault
after before rest = and_then rest (λ opcodes. Ok (before ++ opcodes))

-- one more of them
moved : (before : List Opcode) (opcode : Opcode) (rest : Result (List Opcode) Fault)
    → after before (and_then rest (λ opcodes. Ok (opcode ∷ opcodes))) ≡ after (before ++ opcode ∷ []) rest
moved before opcode (Ok opcodes) = ap (λ (all : List Opcode). Ok all) (sym (append_assoc before (opcode ∷ []) opcodes))
moved before opcode (Err fault) = refl

not_last : (code : ℕ) → code ≢ 255 → (code == 255) ≡ false
not_last code other = grind (arith, nat_tests)

pub next_opcode : (version : Version) (bytes : List ℕ) (at most i : ℕ) (before : List Opcode) (opcode : Opcode) → i < most
    → opcode_at version bytes at ≡ Ok opcode → opcode.code ≢ 255
    → after before (opcodes_from version bytes (most - i) at)
    ≡ after (before ++ opcode ∷ []) (opcodes_from version bytes (most - (i + 1)) (next version opcode.end))
unfolding opcodes_from
next_opcode version bytes at most i before opcode below is other =
    let more : most - i ≡ suc (most - (i + 1)) = omega arith in
    rw (more, is, not_last opcode.code other) (moved before opcode (opcodes_from version bytes (most - (i + 1)) (next version opcode.end)))

-- the last of them
pub last_opcode : (version : Version) (bytes : List ℕ) (at most i : ℕ) (before : List Opcode) (opcode : Opcode) → i < most
    → opcode_at version bytes at ≡ Ok opcode → opcode.code ≡ 255 → after before (opcodes_from version bytes (most - i) at) ≡ Ok (before ++ opcode ∷ [])
unfolding opcodes_from
last_opcode version bytes at most i before opcode below is end =
    let more : most - i ≡ suc (most - (i + 1)) = omega arith in rw (more, is, end) refl

-- one that isn't there
pub wrong_opcode : (version : Version) (bytes : List ℕ) (at most i : ℕ) (before : List Opcode) (fault : Fault) → i < most
    → opcode_at version bytes at ≡ Err fault → after before (opcodes_from version bytes (most - i) at) ≡ Err fault
unfolding opcodes_from
wrong_opcode version bytes at most i before fault below is =
    let more : most - i ≡ suc (most - (i + 1)) = omega arith in rw (more, is) refl

-- more than there may be
pub too_many : (version : Version) (bytes : List ℕ) (at most i : ℕ) (before : List Opcode) → most ≤ i → after before (opcodes_from version bytes (most - i) at) ≡ Err TooMany
unfolding opcodes_from
too_many version bytes at most i before past = let none : most - i ≡ 0 = omega arith in rw none refl

-- the next place is near
pub next_low : (version : Version) (end : ℕ) → end ≤ 16777216 → next version end ≤ 16777217
next_low One end low = omega arith
next_low Two end low = omega arith

-- none so far
pub none_before : (rest : Result (List Opcode) Fault) → after [] rest ≡ rest
none_before (Ok opcodes) = refl
none_before (Err fault) = refl
