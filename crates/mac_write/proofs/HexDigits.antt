-- The digits of a text are read as the bytes that they were made of.
use Rattle.std.proofs.Common.{◌≡◌, ℕ, zero, suc, ◌+◌, ◌*◌, ◌/◌, ◌%◌, ◌<◌, Bool, true, false, List, [], ◌∷◌, ◌++◌, map, drop, get_or, if◌then◌else◌, Result, Option, None, Some, Ok, refl, sym, ap, subst, ◌∙◌, arith}
use Rattle.std.specs.Prelude.{◌==◌}
use Rattle.std.specs.List.{AllByRecursion, range_with_len}
use Rattle.std.proofs.lemmas.Bool.{eqb-false, eqb-true}
use Rattle.std.proofs.lemmas.List.FromFn.{get_or-map-range_with_len}
use Rattle.mac_files.specs.declared.bin_hex.digits.Placed.{Placed}
use Rattle.mac_files.specs.declared.bin_hex.fault.BinHexFault.{BinHexFault}
use Rattle.mac_files.specs.BinHex.{Reading, before, digit_of, digits_from, expanded, is_skipped, packed, values_of}
use Rattle.mac_files.proofs.BinHexRuns.{runs_literal, runs_plain}
use Rattle.mac_write.specs.HexText.{digit, digits, escape, escaped, in_lines, sixes}
use Rattle.mac_write.specs.Bytes.{AreBytes}
use Rattle.mac_write.proofs.Refused.{append_lt}

-- A reading of these values that ends at a colon.
pub record Reads (r : Reading) (values : List ℕ) : Type 0 where
  pub values_are : values_of r ≡ values
  pub at : ℕ
  pub closed : r.ending ≡ Ok at

reads_before : (r : Reading) (p : Placed) (value : ℕ) (values : List ℕ) → p.value ≡ value → Reads r values → Reads (before (p ∷ []) r) (value ∷ values)
reads_before r p value values is reads =
    record { values_are = ap (λ (xs : List ℕ). p.value ∷ xs) reads.values_are ∙ ap (λ (x : ℕ). x ∷ values) is; at = reads.at; closed = reads.closed }

-- One digit.

abbrev read_digit : ℕ → Bool × Bool × Option ℕ
read_digit value = (digit value == 58, is_skipped (digit value), digit_of (digit value))

abbrev as_digit : ℕ → Bool × Bool × Option ℕ
as_digit value = (false, false, Some value)

all_read : map read_digit (range_with_len 0 64) ≡ map as_digit (range_with_len 0 64)
unfolding digit digit_of
all_read = refl

digit_read : (value : ℕ) → value < 64 → read_digit value ≡ as_digit value
digit_read value h =
    sym (get_or-map-range_with_len read_digit 0 64 value value (as_digit 0) h (omega arith))
    ∙ ap (λ (xs : List (Bool × Bool × Option ℕ)). get_or xs value (as_digit 0)) all_read
    ∙ get_or-map-range_with_len as_digit 0 64 value value (as_digit 0) h (omega arith)

digit_step : (value at : ℕ) (cs : List ℕ) → value < 64 → digits_from at (digit value ∷ cs) ≡ before (record { value = value; at = at } ∷ []) (digits_from (at + 1) cs)
unfolding digits_from
digit_step value at cs h =
    let read = digit_read value h in
    rw (
      ap (λ (x : Bool × Bool × Option ℕ). x.0) read,
      ap (λ (x : Bool × Bool × Option ℕ). x.1) read,
      ap (λ (x : Bool × Bool × Option ℕ). x.2) read,
    ) refl

line_step : (at : ℕ) (cs : List ℕ) → digits_from at (10 ∷ cs) ≡ digits_from (at + 1) cs
unfolding digits_from
line_step at cs = refl

-- The digits in lines.

abbrev pub AreSixes : List ℕ → Type 0
AreSixes values = AllByRecursion (λ value. value < 64) values

pub digits_read : (values : List ℕ) (room at : ℕ) → AreSixes values → Reads (digits_from at (in_lines room (map digit values ++ 58 ∷ []))) values
unfolding digits_from in_lines
digits_read [] zero at are = record { values_are = refl; at = at + 1; closed = refl }
digits_read [] (suc room) at are = record { values_are = refl; at = at; closed = refl }
digits_read (value ∷ values) zero at are =
    let cs = in_lines 63 (map digit values ++ 58 ∷ []) in
    let e : digits_from at (10 ∷ digit value ∷ cs) ≡ before (record { value = value; at = at + 1 } ∷ []) (digits_from (at + 1 + 1) cs) =
    line_step at (digit value ∷ cs) ∙ digit_step value (at + 1) cs are.0 in
    subst (λ (r : Reading). Reads r (value ∷ values)) (sym e) (reads_before (digits_from (at + 1 + 1) cs) (record { value = value; at = at + 1 }) value values refl (digits_read values 63 (at + 1 + 1) are.1))
digits_read (value ∷ values) (suc room) at are =
    let cs = in_lines room (map digit values ++ 58 ∷ []) in
    subst (λ (r : Reading). Reads r (value ∷ values)) (sym (digit_step value at cs are.0))
    (reads_before (digits_from (at + 1) cs) (record { value = value; at = at }) value values refl (digits_read values room (at + 1) are.1))

-- The bytes of digits.

-- the bytes of values
unpacked : List ℕ → List ℕ
unpacked [] = []
unpacked (a ∷ []) = []
unpacked (a ∷ b ∷ []) = (a * 4 + b / 16) ∷ []
unpacked (a ∷ b ∷ c ∷ []) = (a * 4 + b / 16) ∷ (b % 16 * 16 + c / 4) ∷ []
unpacked (a ∷ b ∷ c ∷ d ∷ values) = (a * 4 + b / 16) ∷ (b % 16 * 16 + c / 4) ∷ (c % 4 * 64 + d) ∷ unpacked values

abbrev pub values : List Placed → List ℕ
values placed = map (λ (p : Placed). p.value) placed

packed_values : (placed : List Placed) → values (packed placed) ≡ unpacked (values placed)
unfolding packed unpacked
packed_values [] = refl
packed_values (a ∷ []) = refl
packed_values (a ∷ b ∷ []) = refl
packed_values (a ∷ b ∷ c ∷ []) = refl
packed_values (a ∷ b ∷ c ∷ d ∷ placed) =
    ap (λ (xs : List ℕ). (a.value * 4 + b.value / 16) ∷ (b.value % 16 * 16 + c.value / 4) ∷ (c.value % 4 * 64 + d.value) ∷ xs) (packed_values placed)

-- three bytes of four values
three : (a b c : ℕ) → a < 256 → b < 256 → c < 256
    → (a / 4 * 4 + (a % 4 * 16 + b / 16) / 16 ≡ a) × ((a % 4 * 16 + b / 16) % 16 * 16 + (b % 16 * 4 + c / 64) / 4 ≡ b)
    × ((b % 16 * 4 + c / 64) % 4 * 64 + c % 64 ≡ c)
three a b c ha hb hc = (omega arith, omega arith, omega arith)

unpacked_sixes : (bytes : List ℕ) → AreBytes bytes → unpacked (sixes bytes) ≡ bytes
unfolding unpacked sixes
unpacked_sixes [] are = refl
unpacked_sixes (a ∷ []) are = let first : a / 4 * 4 + a % 4 * 16 / 16 ≡ a = omega arith in ap (λ (x : ℕ). x ∷ []) first
unpacked_sixes (a ∷ b ∷ []) are =
    let all = three a b 0 (are 0) (are 1) (omega arith) in
    ap (λ (x : ℕ). x ∷ ((a % 4 * 16 + b / 16) % 16 * 16 + b % 16 * 4 / 4) ∷ []) all.0 ∙ ap (λ (x : ℕ). a ∷ x ∷ []) second
  where
    second : (a % 4 * 16 + b / 16) % 16 * 16 + b % 16 * 4 / 4 ≡ b
    second = let hb = are 1 in omega arith
unpacked_sixes (a ∷ b ∷ c ∷ bytes) are =
    let all = three a b c (are 0) (are 1) (are 2) in
    rw (all.0, all.1, all.2, unpacked_sixes bytes (λ k. are (suc (suc (suc k))))) refl

pub packed_read : (bytes : List ℕ) (placed : List Placed) → values placed ≡ sixes bytes → AreBytes bytes → values (packed placed) ≡ bytes
packed_read bytes placed is are = packed_values placed ∙ ap unpacked is ∙ unpacked_sixes bytes are

pub sixes_are : (bytes : List ℕ) → AreBytes bytes → AreSixes (sixes bytes)
unfolding sixes
sixes_are [] are = tt
sixes_are (a ∷ []) are = let ha = are 0 in (omega arith, (omega arith, tt))
sixes_are (a ∷ b ∷ []) are = let ha = are 0 in let hb = are 1 in (omega arith, (omega arith, (omega arith, tt)))
sixes_are (a ∷ b ∷ c ∷ bytes) are =
    let ha = are 0 in let hb = are 1 in let hc = are 2 in
    (omega arith, (omega arith, (omega arith, (omega arith, sixes_are bytes (λ k. are (suc (suc (suc k))))))))

-- The run-length code.

-- one byte more, by whether it is the run-length byte
escaped_by : (byte : ℕ) (bytes : List ℕ) → ((last : Option ℕ) (placed : List Placed) (at : ℕ) → values placed ≡ escaped bytes → Reads (expanded last placed (Ok at)) bytes)
    → (last : Option ℕ) (placed : List Placed) (at : ℕ) (is_run : Bool) → (byte == 144) ≡ is_run
    → values placed ≡ (if is_run then 144 ∷ 0 ∷ [] else byte ∷ []) ++ escaped bytes → Reads (expanded last placed (Ok at)) (byte ∷ bytes)
escaped_by byte bytes rest last [] at true is e = absurd (cc e)
escaped_by byte bytes rest last (p ∷ []) at true is e = absurd (cc e)
escaped_by byte bytes rest last (p ∷ n ∷ placed) at true is e =
    let mark : p.value ≡ 144 = ap (λ (xs : List ℕ). get_or xs 0 0) e in
    let none : n.value ≡ 0 = ap (λ (xs : List ℕ). get_or xs 1 0) e in
    let after : values placed ≡ escaped bytes = ap (drop 2) e in
    let t : Reading = record { values = placed; ending = Ok at } in
    let s : Reading = record { values = n ∷ placed; ending = Ok at } in
    let r : Reading = record { values = p ∷ n ∷ placed; ending = Ok at } in
    let step = runs_literal last r s t p n refl mark refl none in
    subst (λ (q : Reading). Reads q (byte ∷ bytes)) (sym step)
    (reads_before (expanded (Some 144) placed (Ok at)) (record { value = 144; at = n.at }) byte bytes (sym (eqb-true byte 144 is)) (rest (Some 144) placed at after))
escaped_by byte bytes rest last [] at false is e = absurd (cc e)
escaped_by byte bytes rest last (p ∷ placed) at false is e =
    let same : p.value ≡ byte = ap (λ (xs : List ℕ). get_or xs 0 0) e in
    let after : values placed ≡ escaped bytes = ap (drop 1) e in
    let s : Reading = record { values = placed; ending = Ok at } in
    let r : Reading = record { values = p ∷ placed; ending = Ok at } in
    let step = runs_plain last r s p refl (λ mark. eqb-false byte 144 is (sym same ∙ mark)) in
    subst (λ (q : Reading). Reads q (byte ∷ bytes)) (sym step)
    (reads_before (expanded (Some p.value) placed (Ok at)) p byte bytes same (rest (Some p.value) placed at after))

pub escaped_read : (bytes : List ℕ) (last : Option ℕ) (placed : List Placed) (at : ℕ) → values placed ≡ escaped bytes → Reads (expanded last placed (Ok at)) bytes
unfolding expanded
escaped_read [] last [] at e = record { values_are = refl; at = at; closed = refl }
escaped_read [] last (p ∷ placed) at e = absurd (cc e)
escaped_read (byte ∷ bytes) last placed at e = escaped_by byte bytes (escaped_read bytes) last placed at (byte == 144) refl e

pub escaped_are : (bytes : List ℕ) → AreBytes bytes → AreBytes (escaped bytes)
escaped_are [] are = are
escaped_are (byte ∷ bytes) are = append_lt (escape byte) (escaped bytes) (one (byte == 144)) (escaped_are bytes (λ k. are (suc k)))
  where
    one : (is_run : Bool) → AreBytes (if is_run then 144 ∷ 0 ∷ [] else byte ∷ [])
    one true zero = omega arith
    one true (suc zero) = omega arith
    one true (suc (suc k)) = omega arith
    one false zero = are 0
    one false (suc k) = omega arith

-- All of it.

-- the digits of escaped bytes, in lines, are read as these bytes
pub text_read : (bytes : List ℕ) (room at : ℕ) → AreBytes bytes
    → let read = digits_from at (in_lines room (digits (escaped bytes) ++ 58 ∷ [])) in Reads (expanded None (packed read.values) read.ending) bytes
text_read bytes room at are =
    let placed = digits_from at (in_lines room (digits (escaped bytes) ++ 58 ∷ [])) in
    let fit = escaped_are bytes are in
    let read = digits_read (sixes (escaped bytes)) room at (sixes_are (escaped bytes) fit) in
    let packed_are = packed_read (escaped bytes) placed.values read.values_are fit in
    subst (λ (ending : Result ℕ BinHexFault). Reads (expanded None (packed placed.values) ending) bytes) (sym read.closed)
    (escaped_read bytes None (packed placed.values) read.at packed_are)
