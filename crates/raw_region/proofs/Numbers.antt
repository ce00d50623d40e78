-- Big-endian numbers inside a list of bytes.
use Rattle.std.proofs.Common.{◌≡◌, ℕ, ◌+◌, ◌≤◌, ◌<◌, ◌^◌, ◌⊎◌, List, [], length, sym, ap, ◌∙◌, append-nil}
use Rattle.byteorder.specs.Endian.{big_bytes, big_number}
use Rattle.byteorder.specs.Numbers.{big_number-reads_back, length-bytes_high_first}
use Rattle.raw_region.specs.Bytes.{part, written}
use Rattle.raw_region.proofs.Laws.{part-written-apart}

-- how many bytes a number has
pub length-big_bytes : (n x : ℕ) → length (big_bytes n x) ≡ n
length-big_bytes = length-bytes_high_first

-- a number reads as itself
pub number-bytes : (n x : ℕ) → x < 256 ^ n → big_number n (big_bytes n x) ≡ x
number-bytes n x fits = ap (big_number n) (sym (append-nil (big_bytes n x))) ∙ big_number-reads_back n x [] fits

-- a number outside what was written stays
pub number-apart : (xs : List ℕ) (at : ℕ) (ws : List ℕ) (a n : ℕ) → (a + n ≤ at) ⊎ (at + length ws ≤ a) → big_number n (part (written xs at ws) a n) ≡ big_number n (part xs a n)
number-apart xs at ws a n off = ap (big_number n) (part-written-apart xs at ws a n off)
