-- The same bytes at a place of two lists.
use Rattle.std.proofs.Common.{◌≡◌, ℕ, zero, suc, ◌+◌, ◌-◌, ◌*◌, ◌^◌, ◌≤◌, List, ◌++◌, length, take, drop, replicate, refl, sym, ap, ◌∙◌, arith}
use Rattle.std.specs.Prelude.{slice_index}
use Rattle.std.proofs.lemmas.List.{drop-append-le, drop-drop, drop-take, drop_at, get_or-drop, length-drop, length-take, length-take-le, take-append-le, take-take, take_at}
use Rattle.std.proofs.Math.Seq.{drop-append-add}
use Rattle.byteorder.specs.Endian.{big_from}
use Rattle.byteorder.specs.Numbers.{big_from-take}
use Rattle.mac_write.specs.Bytes.{filled, put}

-- so many bytes from a place on are the same
abbrev pub Same : ℕ → ℕ → List ℕ → List ℕ → Type 0
Same at count xs ys = take count (drop at xs) ≡ take count (drop at ys)

pub short : (n j k : ℕ) (ys : List ℕ) → j + k ≤ n → Same j k (take n ys) ys
short n j k ys h =
    let all : n ≡ j + (n - j) = omega arith in
    ap (λ (i : ℕ). take k (drop j (take i ys))) all ∙ ap (take k) (drop-take j (n - j) ys) ∙ take-take k (n - j) (drop j ys) (omega arith)

-- the same of a part of these
inside : (a n j k : ℕ) (xs ys : List ℕ) → Same a n xs ys → j + k ≤ n → Same (a + j) k xs ys
inside a n j k xs ys same h =
    ap (take k) (sym (drop-drop j a xs)) ∙ sym (short n j k (drop a xs) h) ∙ ap (λ (zs : List ℕ). take k (drop j zs)) same
    ∙ short n j k (drop a ys) h ∙ ap (take k) (drop-drop j a ys)

pub within : (a n i k : ℕ) (xs ys : List ℕ) → Same a n xs ys → a ≤ i → i + k ≤ a + n → Same i k xs ys
within a n i k xs ys same low high =
    let place : i ≡ a + (i - a) = omega arith in
    ap (λ (j : ℕ). take k (drop j xs)) place ∙ inside a n (i - a) k xs ys same (omega arith) ∙ sym (ap (λ (j : ℕ). take k (drop j ys)) place)

-- a number of the same bytes is the same
pub from_drop : (i j n : ℕ) (xs : List ℕ) → big_from (i + j) n xs ≡ big_from j n (drop i xs)
from_drop i j zero xs = refl
from_drop i j (suc n) xs =
    let next : suc (i + j) ≡ i + suc j = omega arith in
    ap (λ (b : ℕ). b * 256 ^ n + big_from (suc (i + j)) n xs) (sym (get_or-drop i xs j 0))
    ∙ ap (λ (r : ℕ). slice_index (drop i xs) j * 256 ^ n + r) (ap (λ (k : ℕ). big_from k n xs) next ∙ from_drop i (suc j) n xs)

pub number_at : (i n : ℕ) (xs : List ℕ) → big_from i n xs ≡ big_from 0 n (drop i xs)
number_at i n xs = let place : i ≡ i + 0 = omega arith in ap (λ (k : ℕ). big_from k n xs) place ∙ from_drop i 0 n xs

pub number_same : (i n : ℕ) (xs ys : List ℕ) → Same i n xs ys → big_from i n xs ≡ big_from i n ys
number_same i n xs ys same =
    number_at i n xs ∙ sym (big_from-take 0 n n (drop i xs) (omega arith)) ∙ ap (big_from 0 n) same ∙ big_from-take 0 n n (drop i ys) (omega arith)
    ∙ sym (number_at i n ys)

pub index_same : (i : ℕ) (xs ys : List ℕ) → Same i 1 xs ys → slice_index xs i ≡ slice_index ys i
index_same i xs ys same = let number = number_same i 1 xs ys same in omega arith

-- the first of two lists
pub left_same : (i k : ℕ) (xs ys : List ℕ) → i + k ≤ length xs → Same i k (xs ++ ys) xs
left_same i k xs ys h =
    ap (take k) (drop-append-le i xs ys (omega arith)) ∙ take-append-le k (drop i xs) ys (omega (arith, length-drop i xs))

-- the second of two lists
pub right_from : (i n : ℕ) (xs ys : List ℕ) → length xs ≡ n → n ≤ i → drop i (xs ++ ys) ≡ drop (i - n) ys
right_from i n xs ys long h =
    let place : i ≡ length xs + (i - n) = omega arith in
    ap (λ (j : ℕ). drop j (xs ++ ys)) place ∙ drop-append-add xs ys (i - n)

-- bytes that are put at a place, those before and those after
pub put_before : (at : ℕ) (bytes xs : List ℕ) (i k : ℕ) → i + k ≤ at → at ≤ length xs → Same i k (put at bytes xs) xs
put_before at bytes xs i k h within =
    left_same i k (take at xs) (bytes ++ drop (at + length bytes) xs) (omega (arith, length-take-le at xs within)) ∙ short at i k xs h

pub put_after : (at : ℕ) (bytes xs : List ℕ) (i : ℕ) → at + length bytes ≤ i → at ≤ length xs → drop i (put at bytes xs) ≡ drop i xs
put_after at bytes xs i h within =
    let end = at + length bytes in
    let place : end + (i - end) ≡ i = omega arith in
    right_from i at (take at xs) (bytes ++ drop end xs) (length-take-le at xs within) (omega arith)
    ∙ right_from (i - at) (length bytes) bytes (drop end xs) refl (omega arith)
    ∙ drop-drop (i - at - length bytes) end xs ∙ ap (λ (j : ℕ). drop j xs) (omega arith)

pub put_at : (at n : ℕ) (bytes xs : List ℕ) → length bytes ≡ n → at ≤ length xs → take n (drop at (put at bytes xs)) ≡ bytes
put_at at n bytes xs long within =
    ap (take n) (drop_at (take at xs) (bytes ++ drop (at + length bytes) xs) at (length-take-le at xs within))
    ∙ take_at bytes (drop (at + length bytes) xs) n long

-- the first bytes of a file, filled with zeros
pub filled_same : (count i k : ℕ) (file : List ℕ) → i + k ≤ count → i + k ≤ length file → Same i k (filled count (take count file)) file
filled_same count i k file few within =
    left_same i k (take count file) (replicate (count - length (take count file)) 0) (omega (arith, length-take count file)) ∙ short count i k file few

-- parts of the same bytes at two places
pub shifted : (a b n j k : ℕ) (xs ys : List ℕ) → take n (drop a xs) ≡ take n (drop b ys) → j + k ≤ n → take k (drop (a + j) xs) ≡ take k (drop (b + j) ys)
shifted a b n j k xs ys same h =
    ap (take k) (sym (drop-drop j a xs)) ∙ sym (short n j k (drop a xs) h) ∙ ap (λ (zs : List ℕ). take k (drop j zs)) same
    ∙ short n j k (drop b ys) h ∙ ap (take k) (drop-drop j b ys)

pub number_shifted : (i j n : ℕ) (xs ys : List ℕ) → take n (drop i xs) ≡ take n (drop j ys) → big_from i n xs ≡ big_from j n ys
number_shifted i j n xs ys same =
    number_at i n xs ∙ sym (big_from-take 0 n n (drop i xs) (omega arith)) ∙ ap (big_from 0 n) same ∙ big_from-take 0 n n (drop j ys) (omega arith)
    ∙ sym (number_at j n ys)
