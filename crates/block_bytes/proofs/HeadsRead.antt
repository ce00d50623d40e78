-- The header of a possible block that bytes have is the one that is read there.
use Rattle.std.proofs.Common.{◌≡◌, ℕ, ◌+◌, ◌<◌, ◌^◌, ◌/◌, ◌%◌, List, ◌++◌, take, drop, sym, ap, ◌∙◌, arith, take-append-drop, drop-drop}
use Rattle.std.proofs.lemmas.List.{drop-take}
use Rattle.byteorder.specs.Endian.{big_number}
use Rattle.byteorder.specs.Numbers.{big_from-take}
use Rattle.mac_base.specs.declared.block.HeadKind.{HeadKind}
use Rattle.mac_base.specs.declared.block.HeadKind.TheVariants.{Bits24, Bits32}
use Rattle.mac_base.specs.HeadKind.{head_size, address_end}
use Rattle.raw_region.specs.Bytes.{part}
use Rattle.block_bytes.specs.declared.header.Header.{Header}
use Rattle.block_bytes.specs.Adopting.{IsHeadAt}
use Rattle.block_bytes.specs.Head.{head_bytes, header_in, role_in}
use Rattle.block_bytes.proofs.Heads.{header_in-head_bytes}

-- a word at an offset after a place
pub word-at : (xs : List ℕ) (at k n : ℕ) → n ≡ big_number 4 (part xs (at + k) 4) → n ≡ big_number 4 (drop k (drop at xs))
word-at xs at k n is = is ∙ big_from-take 0 4 4 (drop (at + k) xs) (omega arith) ∙ ap (big_number 4) (sym (drop-drop k at xs))

-- the first
pub first-at : (xs : List ℕ) (at n : ℕ) → n ≡ big_number 4 (part xs at 4) → n ≡ big_number 4 (drop at xs)
first-at xs at n is = is ∙ big_from-take 0 4 4 (drop at xs) (omega arith)

-- the bytes from a header on
pub from-head : (heads : HeadKind) (base : ℕ) (bytes : List ℕ) (at left : ℕ) (h : Header) → IsHeadAt heads base bytes at left h → drop at bytes ≡ head_bytes heads base h ++ drop (head_size heads) (drop at bytes)
from-head heads base bytes at left h p = sym (take-append-drop (head_size heads) (drop at bytes)) ∙ ap (λ (l : List ℕ). l ++ drop (head_size heads) (drop at bytes)) p.bytes_are

-- it is read
pub head-read : (heads : HeadKind) (base : ℕ) (bytes : List ℕ) (at left : ℕ) (h : Header) → left < address_end heads → base < 2 ^ 32 → IsHeadAt heads base bytes at left h → header_in heads (drop at bytes) ≡ h
head-read heads base bytes at left h small low p =
    let within = p.fits.within in
    ap (header_in heads) (from-head heads base bytes at left h p) ∙ header_in-head_bytes heads base h (drop (head_size heads) (drop at bytes)) (omega arith) p.few p.told low

-- it is read of its own bytes alone
pub header-front : (heads : HeadKind) (xs : List ℕ) → header_in heads (take (head_size heads) xs) ≡ header_in heads xs
header-front Bits24 xs =
    let first : big_number 4 (take 8 xs) ≡ big_number 4 xs = big_from-take 0 4 8 xs (omega arith) in
    let last : big_number 4 (drop 4 (take 8 xs)) ≡ big_number 4 (drop 4 xs) = ap (big_number 4) (drop-take 4 4 xs) ∙ big_from-take 0 4 4 (drop 4 xs) (omega arith) in
    λ i. record { size = first i % 0x100_0000; role = role_in (first i / 0x100_0000) 0 (last i); correction = first i / 0x100_0000 % 16 }
header-front Bits32 xs =
    let first : big_number 4 (take 12 xs) ≡ big_number 4 xs = big_from-take 0 4 12 xs (omega arith) in
    let size : big_number 4 (drop 4 (take 12 xs)) ≡ big_number 4 (drop 4 xs) = ap (big_number 4) (drop-take 4 8 xs) ∙ big_from-take 0 4 8 (drop 4 xs) (omega arith) in
    let last : big_number 4 (drop 8 (take 12 xs)) ≡ big_number 4 (drop 8 xs) = ap (big_number 4) (drop-take 8 4 xs) ∙ big_from-take 0 4 4 (drop 8 xs) (omega arith) in
    λ i. record { size = size i; role = role_in (first i / 0x100_0000) (first i / 0x1_0000 % 256) (last i); correction = first i % 256 }
