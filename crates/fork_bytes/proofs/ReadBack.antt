-- What was written at a place is read there.
use Rattle.std.proofs.Common.{◌≡◌, ℕ, ◌+◌, ◌^◌, ◌<◌, List, ◌∷◌, ◌++◌, length, take, slice_index, ap, ◌∙◌, arith}
use Rattle.std.proofs.lemmas.List.{drop_at, take_at, get_or_at, length-append, append_assoc}
use Rattle.byteorder.specs.Endian.{big_number, big_bytes}
use Rattle.byteorder.specs.Numbers.{big_number-reads_back}
use Rattle.fork_bytes.specs.Fork.{number_at, bytes_at}

-- a number
pub number_in : (n x at : ℕ) (before rest : List ℕ) → length before ≡ at → x < 256 ^ n → number_at n at (before ++ (big_bytes n x ++ rest)) ≡ x
number_in n x at before rest long fits = ap (big_number n) (drop_at before (big_bytes n x ++ rest) at long) ∙ big_number-reads_back n x rest fits

-- bytes
pub bytes_in : (n at : ℕ) (before piece rest : List ℕ) → length before ≡ at → length piece ≡ n → bytes_at n at (before ++ (piece ++ rest)) ≡ piece
bytes_in n at before piece rest long short = ap (take n) (drop_at before (piece ++ rest) at long) ∙ take_at piece rest n short

-- one byte
pub byte_in : (at x : ℕ) (before rest : List ℕ) → length before ≡ at → slice_index (before ++ x ∷ rest) at ≡ x
byte_in at x before rest long = get_or_at before x rest 0 at long

-- a piece belongs to what is before the next
pub after : (whole before piece rest : List ℕ) → whole ≡ before ++ (piece ++ rest) → whole ≡ (before ++ piece) ++ rest
after whole before piece rest is = rw (append_assoc before piece rest) is

-- where the next piece is
pub length-after : (at n : ℕ) (before piece : List ℕ) → length before ≡ at → length piece ≡ n → length (before ++ piece) ≡ at + n
length-after at n before piece long short = length-append before piece ∙ omega arith
