-- A BinHex text that is written has no fewer characters than the bytes that it stands for.
use Rattle.std.proofs.Common.{◌≡◌, ℕ, zero, suc, ◌+◌, ◌≤◌, Bool, true, false, List, [], ◌∷◌, ◌++◌, length, map, if◌then◌else◌, arith}
use Rattle.std.specs.Prelude.{◌==◌}
use Rattle.std.proofs.lemmas.List.{length-append, length-map}
use Rattle.mac_write.specs.HexText.{digit, digits, escape, escaped, in_lines, sixes}

escape_by : (byte : ℕ) (is_run : Bool) → 1 ≤ length (if is_run then 144 ∷ 0 ∷ [] else byte ∷ [])
escape_by byte true = omega arith
escape_by byte false = omega arith

pub escaped_longer : (bytes : List ℕ) → length bytes ≤ length (escaped bytes)
escaped_longer [] = omega arith
escaped_longer (byte ∷ bytes) =
    let rest = escaped_longer bytes in
    let one : 1 ≤ length (escape byte) = escape_by byte (byte == 144) in
    let both = length-append (escape byte) (escaped bytes) in
    omega arith

pub sixes_longer : (bytes : List ℕ) → length bytes ≤ length (sixes bytes)
unfolding sixes
sixes_longer [] = omega arith
sixes_longer (a ∷ []) = omega arith
sixes_longer (a ∷ b ∷ []) = omega arith
sixes_longer (a ∷ b ∷ c ∷ bytes) = let rest = sixes_longer bytes in omega arith

pub lines_longer : (room : ℕ) (cs : List ℕ) → length cs ≤ length (in_lines room cs)
unfolding in_lines
lines_longer room [] = omega arith
lines_longer zero (c ∷ cs) = let rest = lines_longer 63 cs in omega arith
lines_longer (suc room) (c ∷ cs) = let rest = lines_longer room cs in omega arith

-- the lines between two colons have more characters than the bytes
pub text_longer : (bytes : List ℕ) → length bytes ≤ length (in_lines 64 (58 ∷ digits (escaped bytes) ++ 58 ∷ []))
text_longer bytes =
    let a = escaped_longer bytes in
    let b = sixes_longer (escaped bytes) in
    let c = length-map (sixes (escaped bytes)) digit in
    let d = length-append (digits (escaped bytes)) (58 ∷ []) in
    let e = lines_longer 64 (58 ∷ digits (escaped bytes) ++ 58 ∷ []) in
    omega arith
