-- What is known where nothing is refused.
use Rattle.std.proofs.Common.{◌≡◌, ℕ, ◌*◌, ◌<◌, Bool, true, false, List, [], ◌∷◌, take, get_or, fold, bit_xor, zero, suc, refl, sym, subst, arith, inl, inr, Option, None, Some, if◌then◌else◌, ◌++◌, ◌-◌, drop, replicate, ◌+◌, length}
use Rattle.std.specs.Prelude.{option_map}
use Rattle.std.specs.Option.{option_or}
use Rattle.std.proofs.lemmas.Bool.{cases_lt}
use Rattle.std.proofs.lemmas.List.{get_or-append_right, get_or-drop, get_or_append_left, get_or-take, get_or_past, length-take}
use Rattle.std.proofs.lemmas.Nat.{xor_lt}
use Rattle.byteorder.specs.Endian.{big_bytes}
use Rattle.mac_write.specs.Bytes.{AreBytes}
use Rattle.mac_write.proofs.BinaryKept.{at, before, counted}
use Rattle.mac_files.specs.Crc.{crc_of, with_byte}
use Rattle.mac_files.proofs.BinHexCrc.{bits_lt}

pub or_none : {X : Type 0} (a b : Option X) → option_or a b ≡ None → (a ≡ None) × (b ≡ None)
or_none None b is = (refl, is)
or_none (Some x) b is = absurd (cc is)

pub map_none : {X Y : Type 0} (f : X → Y) (a : Option X) → option_map f a ≡ None → a ≡ None
map_none f None is = refl
map_none f (Some x) is = absurd (cc is)

pub else_none : {X : Type 0} (b : Bool) (x : X) → (if b then Some x else None) ≡ None → b ≡ false
else_none true x is = absurd (cc is)
else_none false x is = refl

pub then_none : {X : Type 0} (b : Bool) (x : X) → (if b then None else Some x) ≡ None → b ≡ true
then_none true x is = refl
then_none false x is = absurd (cc is)

-- a checksum of bytes is of two bytes
byte_lt : (crc byte : ℕ) → crc < 65536 → byte < 256 → with_byte crc byte < 65536
unfolding with_byte
byte_lt crc byte hc hb = bits_lt 8 (bit_xor crc (byte * 256)) (xor_lt 16 crc (byte * 256) hc (omega arith))

pub fold_lt : (crc : ℕ) (bytes : List ℕ) → crc < 65536 → ((k : ℕ) → get_or bytes k 0 < 256) → fold with_byte crc bytes < 65536
fold_lt crc [] hc hb = hc
fold_lt crc (byte ∷ bytes) hc hb = fold_lt (with_byte crc byte) bytes (byte_lt crc byte hc (hb 0)) (λ k. hb (suc k))

pub take_lt : (n : ℕ) (bytes : List ℕ) (k : ℕ) → ((k : ℕ) → get_or bytes k 0 < 256) → get_or (take n bytes) k 0 < 256
take_lt n bytes k hb = elim (cases_lt k n) [
  | inl below ↦ subst (λ (b : ℕ). b < 256) (sym (get_or-take n bytes k 0 below)) (hb k)
  | inr past ↦ subst (λ (b : ℕ). b < 256) (sym (get_or_past (take n bytes) k 0 (omega (arith, length-take n bytes)))) (omega arith)
]

pub crc_lt : (n : ℕ) (bytes : List ℕ) → ((k : ℕ) → get_or bytes k 0 < 256) → crc_of (take n bytes) < 65536
crc_lt n bytes hb = fold_lt 0 (take n bytes) (omega arith) (λ k. take_lt n bytes k hb)

-- Bytes are below 256.

pub append_lt : (xs ys : List ℕ) → AreBytes xs → AreBytes ys → AreBytes (xs ++ ys)
append_lt xs ys hx hy k = elim (cases_lt k (length xs)) [
  | inl below ↦ subst (λ (b : ℕ). b < 256) (sym (get_or_append_left xs ys 0 k below)) (hx k)
  | inr past ↦ subst (λ (b : ℕ). b < 256) (sym (get_or-append_right xs ys (length xs) k 0 refl past)) (hy (k - length xs))
]

pub drop_lt : (n : ℕ) (xs : List ℕ) → AreBytes xs → AreBytes (drop n xs)
drop_lt n xs hx k = subst (λ (b : ℕ). b < 256) (sym (get_or-drop n xs k 0)) (hx (n + k))

pub zeros_lt : (n : ℕ) → AreBytes (replicate n 0)
zeros_lt zero k = omega arith
zeros_lt (suc n) zero = omega arith
zeros_lt (suc n) (suc k) = zeros_lt n k

pub number_lt : (x : ℕ) → AreBytes (big_bytes 4 x)
number_lt x zero = omega arith
number_lt x (suc zero) = omega arith
number_lt x (suc (suc zero)) = omega arith
number_lt x (suc (suc (suc zero))) = omega arith
number_lt x (suc (suc (suc (suc k)))) = omega arith

pub none_lt : AreBytes []
none_lt k = omega arith

pub cons_lt : (x : ℕ) (xs : List ℕ) → x < 256 → AreBytes xs → AreBytes (x ∷ xs)
cons_lt x xs small are zero = small
cons_lt x xs small are (suc k) = are k

-- the bytes that the checksum is of
pub counted_lt : (file : List ℕ) (count : ℕ) → AreBytes file → crc_of (take 124 (counted file count)) < 65536
counted_lt file count bytes =
    let front = append_lt (take (at file) file) (replicate (at file - length (take (at file) file)) 0) (λ k. take_lt (at file) file k bytes) (zeros_lt (at file - length (take (at file) file))) in
    let rest = append_lt (big_bytes 4 count) (drop 91 (before file)) (number_lt count) (drop_lt 91 (before file) front) in
    crc_lt 124 (counted file count) (append_lt (take 87 (before file)) (big_bytes 4 count ++ drop 91 (before file)) (λ k. take_lt 87 (before file) k front) rest)
