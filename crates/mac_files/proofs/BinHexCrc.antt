-- The CRC of RFC 1741, in which each byte comes in at the low end and two zero bytes at last, is that in which each
-- comes in at the high end.
use Rattle.std.proofs.Common.{◌≡◌, ℕ, zero, suc, ◌+◌, ◌-◌, ◌*◌, ◌<◌, ◌≤◌, List, [], ◌∷◌, get_or, fold, bit_xor, refl, sym, ap, subst, ◌∙◌, inl, inr, add-zero, zero-add, arith}
use Rattle.std.specs.Fn.{iterate}
use Rattle.std.proofs.lemmas.Bool.{cases_lt, le-ltb, lt-ltb}
use Rattle.std.proofs.lemmas.List.Sums.{fold-append}
use Rattle.std.proofs.lemmas.Nat.{xor_block, xor_comm, xor_lt}
use Rattle.mac_files.specs.Crc.{crc_of, with_bit, with_byte}
use Rattle.mac_files.specs.BinHex.{bin_hex_crc, with_low_byte}
use lib.Bits.{xor_assoc, xor_self, xor_zero_r}

-- One bit.

low_bit : (r : ℕ) → r < 32768 → with_bit r ≡ r * 2
unfolding with_bit
low_bit r h = rw (lt-ltb r 32768 h) refl

high_bit : (r : ℕ) → r < 32768 → with_bit (32768 + r) ≡ bit_xor (r * 2) 4129
unfolding with_bit
high_bit r h =
    let back : 32768 + r - 32768 ≡ r = omega arith in
    rw (le-ltb (32768 + r) 32768 (omega arith), back) refl

doubled : (r s : ℕ) → bit_xor (r * 2) (s * 2) ≡ bit_xor r s * 2
doubled r s = simp add-zero at (xor_block 1 r s 0 0 (omega arith) (omega arith))

low_high : (r s : ℕ) → r < 32768 → s < 32768 → bit_xor r (32768 + s) ≡ 32768 + bit_xor r s
low_high r s hr hs = simp zero-add at (xor_block 15 0 1 r s hr hs)

high_high : (r s : ℕ) → r < 32768 → s < 32768 → bit_xor (32768 + r) (32768 + s) ≡ bit_xor r s
high_high r s hr hs = simp zero-add at (xor_block 15 1 1 r s hr hs)

cancelled : (a b p : ℕ) → bit_xor (bit_xor a p) (bit_xor b p) ≡ bit_xor a b
cancelled a b p =
    xor_assoc a p (bit_xor b p) ∙ ap (bit_xor a) (xor_comm p (bit_xor b p) ∙ xor_assoc b p p ∙ ap (bit_xor b) (xor_self p) ∙ xor_zero_r b)

below : (r s : ℕ) → r < 32768 → s < 32768 → bit_xor r s < 32768
below r s hr hs = xor_lt 15 r s hr hs

bit_low_low : (r s : ℕ) → r < 32768 → s < 32768 → with_bit (bit_xor r s) ≡ bit_xor (with_bit r) (with_bit s)
bit_low_low r s hr hs = low_bit _ (below r s hr hs) ∙ sym (doubled r s) ∙ rw (low_bit r hr, low_bit s hs) refl

bit_low_high : (r s : ℕ) → r < 32768 → s < 32768 → with_bit (bit_xor r (32768 + s)) ≡ bit_xor (with_bit r) (with_bit (32768 + s))
bit_low_high r s hr hs =
    ap with_bit (low_high r s hr hs) ∙ high_bit _ (below r s hr hs) ∙ ap (λ n. bit_xor n 4129) (sym (doubled r s))
    ∙ xor_assoc (r * 2) (s * 2) 4129 ∙ rw (low_bit r hr, high_bit s hs) refl

bit_high_high : (r s : ℕ) → r < 32768 → s < 32768
    → with_bit (bit_xor (32768 + r) (32768 + s)) ≡ bit_xor (with_bit (32768 + r)) (with_bit (32768 + s))
bit_high_high r s hr hs =
    ap with_bit (high_high r s hr hs) ∙ low_bit _ (below r s hr hs) ∙ sym (doubled r s) ∙ sym (cancelled (r * 2) (s * 2) 4129)
    ∙ rw (high_bit r hr, high_bit s hs) refl

-- a number from 32768 on is 32768 and the rest
rest_of : (x : ℕ) → 32768 ≤ x → x ≡ 32768 + (x - 32768)
rest_of x h = omega arith

with_bit_lt : (x : ℕ) → x < 65536 → with_bit x < 65536
with_bit_lt x h = elim (cases_lt x 32768) [
  | inl below ↦ subst (λ n. n < 65536) (sym (low_bit x below)) (omega arith)
  | inr above ↦
      let e = ap with_bit (rest_of x above) ∙ high_bit (x - 32768) (omega arith) in
      subst (λ n. n < 65536) (sym e) (xor_lt 16 ((x - 32768) * 2) 4129 (omega arith) (omega arith))
]

bit_above_above : (x y : ℕ) → 32768 ≤ x → x < 65536 → 32768 ≤ y → y < 65536 → with_bit (bit_xor x y) ≡ bit_xor (with_bit x) (with_bit y)
bit_above_above x y ax hx ay hy =
    let P : ℕ → ℕ → Type 0 = λ m n. with_bit (bit_xor m n) ≡ bit_xor (with_bit m) (with_bit n) in
    subst (λ m. P m y) (sym (rest_of x ax)) (subst (P (32768 + (x - 32768))) (sym (rest_of y ay)) (bit_high_high (x - 32768) (y - 32768) (omega arith) (omega arith)))

bit_below_above : (x y : ℕ) → x < 32768 → 32768 ≤ y → y < 65536 → with_bit (bit_xor x y) ≡ bit_xor (with_bit x) (with_bit y)
bit_below_above x y hx ay hy =
    let P : ℕ → Type 0 = λ n. with_bit (bit_xor x n) ≡ bit_xor (with_bit x) (with_bit n) in
    subst P (sym (rest_of y ay)) (bit_low_high x (y - 32768) hx (omega arith))

with_bit_xor : (x y : ℕ) → x < 65536 → y < 65536 → with_bit (bit_xor x y) ≡ bit_xor (with_bit x) (with_bit y)
with_bit_xor x y hx hy = elim (cases_lt x 32768) [
  | inl low ↦ elim (cases_lt y 32768) [
    | inl low' ↦ bit_low_low x y low low'
    | inr high' ↦ bit_below_above x y low high' hy
  ]
  | inr high ↦ elim (cases_lt y 32768) [
    | inl low' ↦ ap with_bit (xor_comm x y) ∙ bit_below_above y x low' high hx ∙ xor_comm (with_bit y) (with_bit x)
    | inr high' ↦ bit_above_above x y high hx high' hy
  ]
]

-- Many bits.

pub bits_lt : (n x : ℕ) → x < 65536 → iterate with_bit n x < 65536
bits_lt zero x h = h
bits_lt (suc n) x h = bits_lt n (with_bit x) (with_bit_lt x h)

bits_xor : (n x y : ℕ) → x < 65536 → y < 65536 → iterate with_bit n (bit_xor x y) ≡ bit_xor (iterate with_bit n x) (iterate with_bit n y)
bits_xor zero x y hx hy = refl
bits_xor (suc n) x y hx hy =
    ap (iterate with_bit n) (with_bit_xor x y hx hy) ∙ bits_xor n (with_bit x) (with_bit y) (with_bit_lt x hx) (with_bit_lt y hy)

bits_zero : (n : ℕ) → iterate with_bit n 0 ≡ 0
bits_zero zero = refl
bits_zero (suc n) = ap (iterate with_bit n) (low_bit 0 (omega arith)) ∙ bits_zero n

byte_shift : (b : ℕ) → b < 256 → iterate with_bit 8 b ≡ b * 256
byte_shift b h =
    rw (
      low_bit b (omega arith),
      low_bit (b * 2) (omega arith),
      low_bit (b * 2 * 2) (omega arith),
      low_bit (b * 2 * 2 * 2) (omega arith),
      low_bit (b * 2 * 2 * 2 * 2) (omega arith),
      low_bit (b * 2 * 2 * 2 * 2 * 2) (omega arith),
      low_bit (b * 2 * 2 * 2 * 2 * 2 * 2) (omega arith),
      low_bit (b * 2 * 2 * 2 * 2 * 2 * 2 * 2) (omega arith),
    ) (omega arith)

-- One byte.

byte_before_bits : (crc byte : ℕ) → crc < 65536 → byte < 256 → with_byte (iterate with_bit 16 crc) byte ≡ iterate with_bit 16 (with_low_byte crc byte)
unfolding with_byte with_low_byte
byte_before_bits crc byte hc hb =
    bits_xor 8 (iterate with_bit 16 crc) (byte * 256) (bits_lt 16 crc hc) (omega arith)
    ∙ ap (λ n. bit_xor (iterate with_bit 24 crc) (iterate with_bit 8 n)) (sym (byte_shift byte hb))
    ∙ sym (bits_xor 16 (iterate with_bit 8 crc) byte (bits_lt 8 crc hc) (omega arith))

with_low_byte_lt : (crc byte : ℕ) → crc < 65536 → byte < 256 → with_low_byte crc byte < 65536
unfolding with_low_byte
with_low_byte_lt crc byte hc hb = xor_lt 16 (iterate with_bit 8 crc) byte (bits_lt 8 crc hc) (omega arith)

bytes_before_bits : (crc : ℕ) (bytes : List ℕ) → crc < 65536 → ((k : ℕ) → get_or bytes k 0 < 256)
    → fold with_byte (iterate with_bit 16 crc) bytes ≡ iterate with_bit 16 (fold with_low_byte crc bytes)
bytes_before_bits crc [] hc hb = refl
bytes_before_bits crc (byte ∷ bytes) hc hb =
    ap (λ n. fold with_byte n bytes) (byte_before_bits crc byte hc (hb 0))
    ∙ bytes_before_bits (with_low_byte crc byte) bytes (with_low_byte_lt crc byte hc (hb 0)) (λ k. hb (suc k))

-- two zero bytes at last bring down sixteen bits
zeros_last : (bytes : List ℕ) → bin_hex_crc bytes ≡ iterate with_bit 16 (fold with_low_byte 0 bytes)
unfolding bin_hex_crc with_low_byte
zeros_last bytes = fold-append with_low_byte 0 bytes (0 ∷ 0 ∷ []) ∙ xor_zero_r _ ∙ ap (iterate with_bit 8) (xor_zero_r _)

pub bin_hex_crc_is : (bytes : List ℕ) → ((k : ℕ) → get_or bytes k 0 < 256) → crc_of bytes ≡ bin_hex_crc bytes
bin_hex_crc_is bytes hb =
    ap (λ n. fold with_byte n bytes) (sym (bits_zero 16)) ∙ bytes_before_bits 0 bytes (omega arith) hb ∙ sym (zeros_last bytes)
