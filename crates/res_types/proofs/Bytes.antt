-- Bytes in bits.
use Rattle.std.proofs.Common.{◌≡◌, ◌≢◌, ℕ, zero, suc, ◌+◌, ◌-◌, ◌*◌, ◌<◌, ◌==◌, Bool, true, false, List, [], ◌∷◌, ◌++◌, length, get_or, Option, Some, None, refl, sym, ap, ◌∙◌, append_assoc, append-nil, arith}
use Rattle.std.proofs.lemmas.Bool.{le-leb}
use Rattle.res_types.specs.Texts.{are_bytes}
use Rattle.std.proofs.lemmas.List.{length-append, flat_map_more}
use Rattle.std.proofs.lemmas.Bool.Decides.{nat_tests}
use Rattle.res_types.specs.Bits.{◌>>=◌, bits_of, byte_bits, number_at, bytes_at, ended_at}
use Rattle.res_types.proofs.Numbers.{number_takes, bits_long}

-- bytes before those that are there
abbrev pub with_bytes : List ℕ → Option (List ℕ × List Bool) → Option (List ℕ × List Bool)
with_bytes front found = found >>= λ x. Some (front ++ x.0, x.1)

bytes_twice : (front more : List ℕ) (found : Option (List ℕ × List Bool)) → with_bytes front (with_bytes more found) ≡ with_bytes (front ++ more) found
bytes_twice front more (Some x) = ap (λ (bytes : List ℕ). Some (bytes, x.1)) (sym (append_assoc front more x.0))
bytes_twice front more None = refl

module _ (n i : ℕ) (front : List ℕ) (bits : List Bool) (total : Option (List ℕ × List Bool)) where
  -- so many bytes: the next one
  pub next_byte : with_bytes front (bytes_at (n - i) bits) ≡ total → i < n → (byte : ℕ) (after : List Bool) → number_at 8 bits ≡ Some (byte, after)
      → with_bytes (front ++ byte ∷ []) (bytes_at (n - (i + 1)) after) ≡ total
  next_byte is less byte after here =
      let left : n - i ≡ suc (n - (i + 1)) = omega arith in
      let turn : with_bytes front (bytes_at (n - i) bits) ≡ with_bytes front (with_bytes (byte ∷ []) (bytes_at (n - (i + 1)) after)) = rw (left, here) refl in
      sym (bytes_twice front (byte ∷ []) (bytes_at (n - (i + 1)) after)) ∙ sym turn ∙ is

  pub no_byte : with_bytes front (bytes_at (n - i) bits) ≡ total → i < n → number_at 8 bits ≡ None → None ≡ total
  no_byte is less here =
      let left : n - i ≡ suc (n - (i + 1)) = omega arith in
      let turn : with_bytes front (bytes_at (n - i) bits) ≡ None = rw (left, here) refl in
      sym turn ∙ is

  -- bytes up to a 0: the next one
  pub next_ended : with_bytes front (ended_at (n - i) bits) ≡ total → i < n → (byte : ℕ) (after : List Bool) → number_at 8 bits ≡ Some (byte, after) → byte ≢ 0
      → with_bytes (front ++ byte ∷ []) (ended_at (n - (i + 1)) after) ≡ total
  next_ended is less byte after here isnt =
      let some : (byte == 0) ≡ false = grind (arith, nat_tests) in
      let left : n - i ≡ suc (n - (i + 1)) = omega arith in
      let turn : with_bytes front (ended_at (n - i) bits) ≡ with_bytes front (with_bytes (byte ∷ []) (ended_at (n - (i + 1)) after)) = rw (left, here, some) refl in
      sym (bytes_twice front (byte ∷ []) (ended_at (n - (i + 1)) after)) ∙ sym turn ∙ is

  pub no_ended : with_bytes front (ended_at (n - i) bits) ≡ total → i < n → number_at 8 bits ≡ None → None ≡ total
  no_ended is less here =
      let left : n - i ≡ suc (n - (i + 1)) = omega arith in
      let turn : with_bytes front (ended_at (n - i) bits) ≡ None = rw (left, here) refl in
      sym turn ∙ is

  pub is_ended : with_bytes front (ended_at (n - i) bits) ≡ total → i < n → (byte : ℕ) (after : List Bool) → number_at 8 bits ≡ Some (byte, after) → byte ≡ 0 → Some (front, after) ≡ total
  is_ended is less byte after here is_zero =
      let none : (byte == 0) ≡ true = ap (λ (b : ℕ). b == 0) is_zero in
      let left : n - i ≡ suc (n - (i + 1)) = omega arith in
      let turn : with_bytes front (ended_at (n - i) bits) ≡ Some (front ++ [], after) = rw (left, here, none) refl in
      let same : Some (front, after) ≡ Some (front ++ [], after) = ap (λ (bytes : List ℕ). Some (bytes, after)) (sym (append-nil front)) in
      same ∙ sym turn ∙ is

-- bytes that were read, in bits
pub bits_push : (all : List Bool) (bytes : List ℕ) (rest : List Bool) (x : ℕ × List Bool) → all ≡ byte_bits bytes ++ rest → number_at 8 rest ≡ Some x → all ≡ byte_bits (bytes ++ x.0 ∷ []) ++ x.1
bits_push all bytes rest x is here =
    is ∙ ap (λ (t : List Bool). byte_bits bytes ++ t) (number_takes 8 rest x here) ∙ sym (append_assoc (byte_bits bytes) (bits_of 8 x.0) x.1)
    ∙ ap (λ (t : List Bool). t ++ x.1) (flat_map_more (bits_of 8) [] bytes x.0)

pub byte_bits_long : (bytes : List ℕ) → length (byte_bits bytes) ≡ 8 * length bytes
byte_bits_long [] = refl
byte_bits_long (byte ∷ bytes) =
    let one = bits_long 8 byte in
    let others = byte_bits_long bytes in
    length-append (bits_of 8 byte) (byte_bits bytes) ∙ omega (arith, one, others)

pub shorter : (bits : List Bool) (x : ℕ × List Bool) → number_at 8 bits ≡ Some x → length x.1 < length bits
shorter bits x here =
    let one = bits_long 8 x.0 in
    let all : length bits ≡ length (bits_of 8 x.0) + length x.1 = ap (λ (t : List Bool). length t) (number_takes 8 bits x here) ∙ length-append (bits_of 8 x.0) x.1 in
    omega arith

few_bits : (bits : List Bool) → number_at 8 bits ≡ None → length bits < 8
unfolding number_at
few_bits bits none = grind (arith, nat_tests)

-- bits that aren't whole bytes are none of bytes
pub not_whole : (all : List Bool) (bytes : List ℕ) (rest : List Bool) → all ≡ byte_bits bytes ++ rest → number_at 8 rest ≡ None → 0 < length rest → (others : List ℕ) → all ≡ byte_bits others → ⊥
not_whole all bytes rest is none some others same =
    let few = few_bits rest none in
    let long : length all ≡ 8 * length bytes + length rest = ap (λ (t : List Bool). length t) is ∙ length-append (byte_bits bytes) rest ∙ ap (λ (n : ℕ). n + length rest) (byte_bits_long bytes) in
    let whole : length all ≡ 8 * length others = ap (λ (t : List Bool). length t) same ∙ byte_bits_long others in
    omega arith

-- one byte more
pub byte_pushed : (old front all : List Bool) (bytes : List ℕ) (byte : ℕ) → front ≡ old ++ byte_bits bytes → all ≡ front ++ bits_of 8 byte → all ≡ old ++ byte_bits (bytes ++ byte ∷ [])
byte_pushed old front all bytes byte is last =
    last ∙ ap (λ (t : List Bool). t ++ bits_of 8 byte) is ∙ flat_map_more (bits_of 8) old bytes byte

-- numbers below 256 are bytes
pub bytes_small : (xs : List ℕ) → ((i : ℕ) → get_or xs i 0 < 256) → are_bytes xs ≡ true
bytes_small [] each = refl
bytes_small (x ∷ xs) each =
    let first : x < 256 = each 0 in
    rw (le-leb (suc x) 256 first) (bytes_small xs (λ i. each (suc i)))
