-- MacBinary with another resource fork: what of its bytes is as it was.
use Rattle.std.proofs.Common.{◌≡◌, ℕ, ◌+◌, ◌-◌, ◌<◌, ◌≤◌, List, [], ◌++◌, length, take, drop, replicate, refl, sym, ap, ◌∙◌, arith}
use Rattle.std.proofs.lemmas.List.{append-nil, drop_at, length-append, length-take, take_at}
use Rattle.byteorder.specs.Endian.{big_bytes, big_from}
use Rattle.byteorder.specs.Numbers.{big_from-take, big_number-reads_back}
use Rattle.mac_files.specs.declared.container.Version.{Version}
use Rattle.mac_files.specs.declared.container.Version.TheVariants.{I, II, III}
use Rattle.mac_files.specs.Crc.{crc_of}
use Rattle.mac_files.specs.MacBinary.{comment_place, padded, resource_fork}
use Rattle.mac_write.specs.Bytes.{filled, put}
use Rattle.mac_write.specs.MacBinary.{binary_front, binary_with_fork, with_sum}
use Rattle.mac_write.proofs.Lists.{length-filled, length-put, length-with_sum}
use Rattle.mac_write.proofs.Segments.{Same, filled_same, left_same, number_at, put_after, put_at, put_before}

-- what comes before the checksum and after it
sum_before : (version : Version) (header : List ℕ) (i k : ℕ) → i + k ≤ 124 → 128 ≤ length header → Same i k (with_sum version header) header
sum_before I header i k h long = refl
sum_before II header i k h long = put_before 124 (big_bytes 2 (crc_of (take 124 header))) header i k h (omega arith)
sum_before III header i k h long = put_before 124 (big_bytes 2 (crc_of (take 124 header))) header i k h (omega arith)

sum_after : (version : Version) (header : List ℕ) (i : ℕ) → 126 ≤ i → 128 ≤ length header → drop i (with_sum version header) ≡ drop i header
sum_after I header i h long = refl
sum_after II header i h long = put_after 124 (big_bytes 2 (crc_of (take 124 header))) header i h (omega arith)
sum_after III header i h long = put_after 124 (big_bytes 2 (crc_of (take 124 header))) header i h (omega arith)

-- what comes before the fork, without its length and the checksum
abbrev pub at : List ℕ → ℕ
at file = (resource_fork file).offset

abbrev pub before : List ℕ → List ℕ
before file = filled (at file) (take (at file) file)

abbrev pub counted : List ℕ → ℕ → List ℕ
counted file count = put 87 (big_bytes 4 count) (before file)

pub length-before : (file : List ℕ) → length (before file) ≡ at file
length-before file = length-filled (at file) (take (at file) file) (omega (arith, length-take (at file) file))

pub length-counted : (file : List ℕ) (count : ℕ) → length (counted file count) ≡ at file
length-counted file count = length-put 87 (big_bytes 4 count) (before file) (omega (arith, length-before file)) ∙ length-before file

pub length-front : (version : Version) (file : List ℕ) (count : ℕ) → length (binary_front version file count) ≡ at file
length-front version file count =
    length-with_sum version (counted file count) (omega (arith, length-counted file count)) ∙ length-counted file count

pub length-new : (version : Version) (file fork : List ℕ) → at file + padded (length fork) ≤ length (binary_with_fork version file fork)
length-new version file fork =
    let count = length fork in let rest = drop (comment_place file) file in
    let a = length-append (binary_front version file count) (filled (padded count) fork ++ rest) in
    let b = length-append (filled (padded count) fork) rest in
    let c = length-filled (padded count) fork (omega arith) in
    let d = length-front version file count in omega arith

-- the bytes of the header but for the fork's length and the checksum
pub first : (version : Version) (file fork : List ℕ) (i k : ℕ) → 128 ≤ length file → i + k ≤ 87 → Same i k (binary_with_fork version file fork) file
first version file fork i k long h =
    let count = length fork in
    left_same i k (binary_front version file count) (filled (padded count) fork ++ drop (comment_place file) file) (omega (arith, length-front version file count))
    ∙ sum_before version (counted file count) i k (omega arith) (omega (arith, length-counted file count))
    ∙ put_before 87 (big_bytes 4 count) (before file) i k h (omega (arith, length-before file))
    ∙ filled_same (at file) i k file (omega arith) (omega arith)

pub middle : (version : Version) (file fork : List ℕ) (i k : ℕ) → 128 ≤ length file → 91 ≤ i → i + k ≤ 124 → Same i k (binary_with_fork version file fork) file
middle version file fork i k long low high =
    let count = length fork in
    left_same i k (binary_front version file count) (filled (padded count) fork ++ drop (comment_place file) file) (omega (arith, length-front version file count))
    ∙ sum_before version (counted file count) i k (omega arith) (omega (arith, length-counted file count))
    ∙ ap (take k) (put_after 87 (big_bytes 4 count) (before file) i low (omega (arith, length-before file)))
    ∙ filled_same (at file) i k file (omega arith) (omega arith)

-- version I has no checksum
pub middle_one : (file fork : List ℕ) (i k : ℕ) → 128 ≤ length file → 91 ≤ i → i + k ≤ 128 → Same i k (binary_with_fork I file fork) file
middle_one file fork i k long low high =
    let count = length fork in
    left_same i k (binary_front I file count) (filled (padded count) fork ++ drop (comment_place file) file) (omega (arith, length-front I file count))
    ∙ ap (take k) (put_after 87 (big_bytes 4 count) (before file) i low (omega (arith, length-before file)))
    ∙ filled_same (at file) i k file (omega arith) (omega arith)

-- the bytes between the header and the fork
pub beyond : (version : Version) (file fork : List ℕ) (i k : ℕ) → 128 ≤ i → i + k ≤ at file → i + k ≤ length file → Same i k (binary_with_fork version file fork) file
beyond version file fork i k low high long =
    let count = length fork in
    left_same i k (binary_front version file count) (filled (padded count) fork ++ drop (comment_place file) file) (omega (arith, length-front version file count))
    ∙ ap (take k) (sum_after version (counted file count) i (omega arith) (omega (arith, length-counted file count)))
    ∙ ap (take k) (put_after 87 (big_bytes 4 count) (before file) i (omega arith) (omega (arith, length-before file)))
    ∙ filled_same (at file) i k file high long

-- the fork, and what follows it
pub fork_from : (version : Version) (file fork : List ℕ)
    → drop (at file) (binary_with_fork version file fork) ≡ filled (padded (length fork)) fork ++ drop (comment_place file) file
fork_from version file fork =
    drop_at (binary_front version file (length fork)) (filled (padded (length fork)) fork ++ drop (comment_place file) file) (at file)
    (length-front version file (length fork))

pub fork_is : (version : Version) (file fork : List ℕ) → take (length fork) (drop (at file) (binary_with_fork version file fork)) ≡ fork
fork_is version file fork =
    let rest = drop (comment_place file) file in let zeros = replicate (padded (length fork) - length fork) 0 in
    ap (take (length fork)) (fork_from version file fork) ∙ left_same 0 (length fork) (fork ++ zeros) rest (omega (arith, length-append fork zeros))
    ∙ take_at fork zeros (length fork) refl

-- the length of the fork
pub length_is : (version : Version) (file fork : List ℕ) → length fork < 4294967296 → big_from 87 4 (binary_with_fork version file fork) ≡ length fork
length_is version file fork few =
    let count = length fork in let new = binary_with_fork version file fork in
    let bytes : take 4 (drop 87 new) ≡ big_bytes 4 count =
    left_same 87 4 (binary_front version file count) (filled (padded count) fork ++ drop (comment_place file) file) (omega (arith, length-front version file count))
    ∙ sum_before version (counted file count) 87 4 (omega arith) (omega (arith, length-counted file count))
    ∙ put_at 87 4 (big_bytes 4 count) (before file) refl (omega (arith, length-before file)) in
    number_at 87 4 new ∙ sym (big_from-take 0 4 4 (drop 87 new) (omega arith)) ∙ ap (big_from 0 4) bytes
    ∙ ap (big_from 0 4) (sym (append-nil (big_bytes 4 count))) ∙ big_number-reads_back 4 count [] (omega arith)

-- what the checksum is of
pub summed_same : (version : Version) (file fork : List ℕ) → take 124 (binary_with_fork version file fork) ≡ take 124 (counted file (length fork))
summed_same version file fork =
    let count = length fork in
    left_same 0 124 (binary_front version file count) (filled (padded count) fork ++ drop (comment_place file) file) (omega (arith, length-front version file count))
    ∙ sum_before version (counted file count) 0 124 (omega arith) (omega (arith, length-counted file count))
