-- The same text once more changes nothing.
use Rattle.std.proofs.Common.{◌≡◌, ℕ, zero, suc, ◌^◌, ◌<◌, Bool, true, List, [], ◌∷◌, ◌++◌, length, Some, Ok, refl, sym, ap, ◌∙◌, append_assoc, arith}
use Rattle.std.specs.Prelude.{nat_lt, slice_get, slice_set}
use Rattle.std.proofs.lemmas.Bool.{ltb-true}
use Rattle.res_types.specs.declared.declaration.Declaration.{Declaration}
use Rattle.res_types.specs.declared.value.Part.{Part}
use Rattle.res_types.specs.declared.value.Part.TheVariants as parts
use Rattle.res_types.specs.Bits.{bits_of, byte_bits, bytes_at}
use Rattle.res_types.specs.Texts.{are_bytes}
use Rattle.res_types.specs.Meaning.{encode}
use Rattle.res_types.proofs.Pairs.{same_ok, some_pair}
use Rattle.res_types.proofs.Numbers.{number_reads}
use Rattle.res_types.proofs.Bytes.{byte_bits_long}
use Rattle.res_types.proofs.TextLaws.{both}

-- bytes in bits are read
bytes_read : (bytes : List ℕ) (rest : List Bool) → are_bytes bytes ≡ true → bytes_at (length bytes) (byte_bits bytes ++ rest) ≡ Some (bytes, rest)
bytes_read [] rest small = refl
bytes_read (byte ∷ bytes) rest small =
    let b = both (nat_lt byte 256) (are_bytes bytes) small in
    let less : byte < 2 ^ 8 = ltb-true byte 256 b.0 in
    let first = number_reads 8 byte (byte_bits bytes ++ rest) (omega arith) less in
    ap (bytes_at (suc (length bytes))) (append_assoc (bits_of 8 byte) (byte_bits bytes) rest) ∙ rw (first, bytes_read bytes rest b.1) refl

-- bytes that have the same bits are the same
pub same_bytes : (old new : List ℕ) → are_bytes old ≡ true → are_bytes new ≡ true → byte_bits old ≡ byte_bits new → old ≡ new
same_bytes old new small small' same =
    let long : length old ≡ length new = let a = byte_bits_long old in let b = byte_bits_long new in let c = ap (λ (t : List Bool). length t) same in omega arith in
    let first = bytes_read old [] small in
    let second = bytes_read new [] small' in
    let joined : Some (old, []) ≡ Some (new, []) = sym first ∙ ap (λ (n : ℕ). bytes_at n (byte_bits old ++ [])) long ∙ ap (λ (t : List Bool). bytes_at (length new) (t ++ [])) same ∙ second in
    (some_pair (old, []) (new, []) joined).0

-- an element in its own place
set_same : (ps : List Part) (place : ℕ) (p : Part) → slice_get ps place ≡ Some p → slice_set ps place p ≡ ps
set_same [] place p is = refl
set_same (q ∷ ps) zero p is = let e : q ≡ p = cc in ap (λ (r : Part). r ∷ ps) (sym e)
set_same (q ∷ ps) (suc place) p is = ap (λ (rs : List Part). q ∷ rs) (set_same ps place p is)

pub text_again : (d : Declaration) (old new : List ℕ) (ps : List Part) (place : ℕ) (was : List ℕ) → are_bytes old ≡ true → are_bytes new ≡ true → slice_get ps place ≡ Some (parts.Text was)
    → encode d ps ≡ Ok (byte_bits old) → encode d (slice_set ps place (parts.Text was)) ≡ Ok (byte_bits new) → new ≡ old
text_again d old new ps place was small small' there first second =
    let same = ap (encode d) (set_same ps place (parts.Text was) there) in
    let bits : byte_bits new ≡ byte_bits old = same_ok (byte_bits new) (byte_bits old) (sym second ∙ same ∙ first) in
    same_bytes new old small' small bits
